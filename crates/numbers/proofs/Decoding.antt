-- What a `?` after reading a number says of what reading finds.
use Rattle.std.proofs.Common.{◌≡◌, ℕ, Ok, Err, sym, ap, ◌∙◌}
use Rattle.std.specs.Prelude.{IsErrAnd}
use Rattle.std.proofs.lemmas.Result.{err_from_is_err_and}
use Rattle.numbers.specs.Leb128.{ReadOf, Reading, got, refused, read_as}
use Rattle.numbers.specs.Leb128Laws.{read_as-same}
use Rattle.numbers.specs.declared.leb128.Decoded.{Decoded}
use Rattle.numbers.specs.declared.leb128.NumberRefusal.{NumberRefusal}

-- a number
pub read-number : (r : Reading) (answer : Reading) (d : Decoded ℕ) → answer ≡ read_as (λ x. x) r → answer ≡ Ok d → r ≡ got d.value d.used
read-number r answer d e f = sym (read_as-same r) ∙ sym e ∙ f

-- a refusal
pub read-refused : (r : Reading) (answer : Reading) (why : NumberRefusal) → answer ≡ read_as (λ x. x) r → answer ≡ Err why → r ≡ refused why
read-refused r answer why e f = sym (read_as-same r) ∙ sym e ∙ f

-- and it is handed on as it is
pub handed_on : {A : Type 0} (answer : ReadOf A) (why : NumberRefusal) → IsErrAnd answer (λ y. y ≡ why) → answer ≡ refused why
handed_on answer why h = let p = err_from_is_err_and answer h in p.1 ∙ ap Err p.2
