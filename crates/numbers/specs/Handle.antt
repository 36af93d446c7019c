-- Handles and indirections as bytes (document 01, "Handles and garbage").
use Rattle.std.specs.Prelude.{ℕ, ◌+◌, List, ◌++◌, Ok, Err}
use Rattle.numbers.specs.Leb128.{shortest, ReadOf, got, refused, read_of}
use Rattle.numbers.specs.declared.handle.ValueHandle.{ValueHandle}
use Rattle.numbers.specs.declared.handle.BlobIndirection.{BlobIndirection}

-- a handle: offset, file id, on-disk size
unfoldable pub handle_bytes : ValueHandle → List ℕ
handle_bytes h = shortest h.offset ++ (shortest h.file ++ shortest h.size)

-- an indirection adds the stated length
unfoldable pub indirection_bytes : BlobIndirection → List ℕ
indirection_bytes i = handle_bytes i.handle ++ shortest i.stated

-- decoding, left to right: the first refusal, or what follows what was read and its bytes
unfoldable pub onward : {A B : Type 0} → ReadOf A → (A → ℕ → ReadOf B) → ReadOf B
onward (Ok r) next = next r.value r.used
onward (Err why) next = refused why

-- a handle from `at` on: offset, file id, on-disk size, and the bytes of all three
unfoldable pub handle_of : ℕ → List ℕ → ReadOf ValueHandle
handle_of at s =
    onward (read_of 64 at s)
    (λ offset n. onward (read_of 64 (at + n) s)
    (λ file m. onward (read_of 32 (at + n + m) s)
    (λ size k. got (record { offset = offset; file = file; size = size }) (n + m + k))))

-- an indirection from `at` on: a handle, then the stated length
unfoldable pub indirection_of : ℕ → List ℕ → ReadOf BlobIndirection
indirection_of at s =
    onward (handle_of at s)
    (λ handle n. onward (read_of 32 (at + n) s)
    (λ stated k. got (record { handle = handle; stated = stated }) (n + k)))
