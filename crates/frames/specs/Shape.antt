-- What an append is given, what a frame form makes of it, and a frame's lengths: the writer counts by lengths alone, whatever the form.
use Rattle.std.specs.Prelude.{ℕ, ◌+◌, List, length}
use Rattle.frames.specs.Layout.{Item, frame_bytes, header_length}
use Rattle.frames.specs.declared.blob.Blob.{Blob}
use Rattle.frames.specs.declared.shape.Shape.{Shape}

-- an item, as a caller hands it over
abbrev pub item_of : List ℕ → ℕ → ℕ → List ℕ → Item
item_of key seqno stated value = record { key = key; seqno = seqno; stated = stated; value = value }

-- the item that a caller lends
abbrev pub item_in : Blob → Item
item_in b = item_of b.key.now b.seqno b.stated b.value.now

-- a plain append states the value's own length
abbrev pub plain_of : List ℕ → ℕ → List ℕ → Item
plain_of key seqno value = item_of key seqno (length value) value

-- a form of frame: an item's bytes, and how many of them stand before its key and behind its value
pub record Form : Type 0 where
  pub bytes : Item → List ℕ
  pub front : Item → ℕ
  pub back : Item → ℕ

-- document 01's frame: the header, key and value, and nothing behind
abbrev pub blob_form : Form
blob_form = record { bytes = frame_bytes; front = λ i. header_length; back = λ i. 0 }

abbrev pub shape_of : Form → Item → Shape
shape_of form i = record { front = form.front i; key = length i.key; value = length i.value; back = form.back i; stated = i.stated }

-- the length of the whole frame
abbrev pub size_of : Shape → ℕ
size_of f = f.front + f.key + f.value + f.back
