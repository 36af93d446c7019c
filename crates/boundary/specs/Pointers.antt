-- Rows of three numbers as the pointers that they are.
use Rattle.std.specs.Prelude.{ℕ, ◌≡◌, refl, ◌/◌, ◌%◌, ◌^◌, List, map, Bool, ◌&&◌, ltb, eqb, length, get_or, Result, Ok, Err}
use Rattle.std.specs.List.{list_all}
use Rattle.std.specs.Simd.{first_chunks}
use Rattle.numbers.specs.Pick.{pick}
use Rattle.numbers.specs.declared.handle.BlobIndirection.{BlobIndirection}
use Rattle.boundary.specs.declared.pointers.ListRefusal.{ListRefusal}
use Rattle.boundary.specs.declared.pointers.ListRefusal.TheVariants as list

-- a dropped pointer; where its frame lay is not looked at
abbrev pub pointer_of : ℕ → ℕ → ℕ → BlobIndirection
pointer_of file size length = record { handle = record { offset = 0; file = file; size = size }; stated = length }

-- a row is cut short, there are more rows than the list of 1,024 has room for, a length is over its width
abbrev pub list_number : ListRefusal → ℕ
list_number list.CutShort = 7
list_number list.NoRoom = 3
list_number list.TooLong = 10

-- a refused answer, named together with its number: a wrong pair has no proof
abbrev pub refuse_list : {T : Type 0} (number : ℕ) (why : ListRefusal) → list_number why ≡ number → Result T ListRefusal
refuse_list number why e = Err why

-- whether both lengths of a row are below 2^32
abbrev pub narrow : List ℕ → Bool
narrow row = ltb (get_or row 1 0) (2 ^ 32) && ltb (get_or row 2 0) (2 ^ 32)

-- the pointer that a row is: file, on-disk size, stated length
abbrev pub pointer_at : List ℕ → BlobIndirection
pointer_at row = pointer_of (get_or row 0 0) (get_or row 1 0) (get_or row 2 0)

-- rows of three numbers
abbrev pub rows_in : List ℕ → List (List ℕ)
rows_in numbers = first_chunks 3 (length numbers / 3) numbers

-- the rows that numbers are, or why they are none
unfoldable pub rows_of : List ℕ → Result (List (List ℕ)) ListRefusal
rows_of numbers =
    pick (eqb (length numbers % 3) 0)
    (pick (ltb 1024 (length numbers / 3)) (refuse_list 3 list.NoRoom refl) (Ok (rows_in numbers)))
    (refuse_list 7 list.CutShort refl)

-- the pointers that rows are, or why they are none
unfoldable pub pointers_of : List (List ℕ) → Result (List BlobIndirection) ListRefusal
pointers_of rows = pick (list_all narrow rows) (Ok (map pointer_at rows)) (refuse_list 10 list.TooLong refl)

-- the same of rows that may be none
abbrev pub pointers_by : Result (List (List ℕ)) ListRefusal → Result (List BlobIndirection) ListRefusal
pointers_by (Ok rows) = pointers_of rows
pointers_by (Err why) = Err why

-- the pointers that numbers are, row by row of three, or why they are none
abbrev pub pointers_in : List ℕ → Result (List BlobIndirection) ListRefusal
pointers_in numbers = pointers_by (rows_of numbers)
