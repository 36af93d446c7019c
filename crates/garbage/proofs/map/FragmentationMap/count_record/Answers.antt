-- A malformed map first, then the mark, then what was decoded.
use Rattle.std.proofs.Common.{rules, ◌≡◌, Bool, true, false, ℕ, List, Result, Ok, Err, refl, sym, ap, ◌∙◌}
use Rattle.numbers.specs.Pick.{pick}
use Rattle.numbers.specs.Handle.{indirection_of}
use Rattle.numbers.specs.declared.leb128.NumberRefusal.{NumberRefusal}
use Rattle.numbers.specs.declared.leb128.NumberRefusal.TheVariants as number
use Rattle.numbers.specs.Reading.{ReadOf}
use Rattle.numbers.specs.declared.handle.BlobIndirection.{BlobIndirection}
use Rattle.garbage.specs.declared.map.FragmentationMap.{FragmentationMap}
use Rattle.garbage.specs.declared.map.CountRefusal.TheVariants.{MapFull}
use Rattle.garbage.specs.declared.record.RecordRefusal.{RecordRefusal}
use Rattle.garbage.specs.declared.record.RecordRefusal.TheVariants.{Number, Count}
use Rattle.garbage.specs.declared.record.RecordDropped.{RecordDropped}
use Rattle.garbage.specs.Maps.{well_formed}
use Rattle.garbage.specs.Records.{read, decoded, record_of}
use Rattle.garbage.proofs.map.FragmentationMap.count_record.Goals as goal

module _ (m : FragmentationMap) (b : Bool) (s : List ℕ) where
  malformed : well_formed m ≡ false → ◌≡◌ {A = RecordDropped} (record { answer = Err (Count MapFull); map = m }) (record_of m b s)
  unfolding pick
  malformed h = sym (rw h)

  module _ (h : well_formed m ≡ true) where
    unmarked : b ≡ false → ◌≡◌ {A = RecordDropped} (record { answer = Ok tt; map = m }) (record_of m b s)
    unfolding pick
    unmarked q = sym (rw (h, q))

    marked : b ≡ true → (r v : ReadOf BlobIndirection) → r ≡ v → r ≡ indirection_of 0 s → decoded m v ≡ record_of m b s
    unfolding pick
    marked q r v e p = ap (decoded m) (sym e ∙ p) ∙ sym (rw (h, q))

unread : (m : FragmentationMap) (why : NumberRefusal) → ◌≡◌ {A = RecordDropped} (record { answer = Err (Number why); map = m }) (decoded m (Err why))
unread m (number.CutShort cut) = refl
unread m number.TooLong = refl

pub returns-in_err-sound : goal.returns-in_err-sound
returns-in_err-sound c =
    let r : c.from_residual.result ≡ Err (Count MapFull) = search rules in
    ap (λ (a : Result (Unit {0}) RecordRefusal). record { answer = a; map = c.args.self.now }) r
    ∙ malformed c.args.self.now c.args.marked c.args.encoded.now (c.in_err-sound.ensures {u = tt})

pub returns-then-not-marked : goal.returns-then-not-marked
returns-then-not-marked c = unmarked c.args.self.now c.args.marked c.args.encoded.now (c.in_ok-sound.ensures {u = tt}) c.if-not-marked.true

pub returns-in_err-decoded : goal.returns-in_err-decoded
returns-in_err-decoded c =
    let r : c.from_residual-in_err-decoded.result ≡ Err (Number c.in_err-decoded.field-0.0) = search rules in
    let d : c.decode.result ≡ Err c.in_err-decoded.field-0.0 = search rules in
    ap (λ (a : Result (Unit {0}) RecordRefusal). record { answer = a; map = c.args.self.now }) r
    ∙ unread c.args.self.now _
    ∙ marked c.args.self.now c.args.marked c.args.encoded.now (c.in_ok-sound.ensures {u = tt}) c.if-not-marked.false
    c.decode.result _ d c.decode.ensures

pub returns-in_err-count_drop : goal.returns-in_err-count_drop
returns-in_err-count_drop c =
    let r : c.from_residual-in_err-count_drop.result ≡ Err (Count c.in_err-count_drop.field-0.0) = search rules in
    let d : c.decode.result ≡ Ok c.in_ok-decoded.decoded = search rules in
    ap (λ (a : Result (Unit {0}) RecordRefusal). record { answer = a; map = c.count_drop.new.self }) r
    ∙ ap read (c.in_err-count_drop.ensures {u = tt})
    ∙ marked c.args.self.now c.args.marked c.args.encoded.now (c.in_ok-sound.ensures {u = tt}) c.if-not-marked.false
    c.decode.result _ d c.decode.ensures

pub returns : goal.returns
returns c =
    let d : c.decode.result ≡ Ok c.in_ok-decoded.decoded = search rules in
    ap read (c.in_ok-count_drop.ensures {u = tt})
    ∙ marked c.args.self.now c.args.marked c.args.encoded.now (c.in_ok-sound.ensures {u = tt}) c.if-not-marked.false
    c.decode.result _ d c.decode.ensures
