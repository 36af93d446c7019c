-- Laws of the frame's layout: lengths, the stores that make it, and marks read as numbers.
use Rattle.std.specs.Prelude.{ℕ, zero, suc, ◌+◌, ◌*◌, ◌/◌, ◌%◌, ◌^◌, ◌<◌, ◌≤◌, ◌≡◌, refl, List, [], ◌∷◌, ◌++◌, false, eqb, length, take, drop, get_or, set}
use Rattle.std.proofs.Common.{sym, ap, ◌∙◌, append_assoc, arith, div-lt_iff_lt-mul, pow-suc, eq-eqb, ne_eqb, lit<, length-append, take_at, drop_at, length-take-le}
use Rattle.std.proofs.Math.Decide.{ℕ_discrete}
use Rattle.std.proofs.lemmas.List.Edits.{sets, sets-eq}
use Rattle.std.proofs.lemmas.List.{set_comm}
use Rattle.hash.specs.declared.Hash128.{Hash128}
use Rattle.hash.specs.XXH3.{xxh3_128}
use Rattle.numbers.specs.Pick.{pick}
use Rattle.numbers.specs.Le.{le, num}
use Rattle.numbers.specs.LeLaws.{length-le, sets_then}
use Rattle.frames.specs.Layout.{blob, meta, header_bytes, header_length, Item, header_for, frame_bytes, starts}
use Rattle.frames.specs.declared.header.Header.{Header}

pub length-header : (h : Header) → length (header_bytes h) ≡ header_length
unfolding header_bytes
length-header h = simp (length-append, length-le)

pub length-frame : (i : Item) → length (frame_bytes i) ≡ header_length + length i.key + length i.value
unfolding frame_bytes
length-frame i = simp (length-append, length-header)

pub le-blob : le 4 0x424f_4c42 ≡ blob
unfolding le
le-blob = refl

pub le-meta : le 4 0x4154_454d ≡ meta
unfolding le
le-meta = refl

-- the header's stores, one after another
pub header-stored : (b₀ b₁ b₂ b₃ b₄ b₅ b₆ b₇ : List ℕ) (at : ℕ) (h : Header)
    → b₁ ≡ sets b₀ at (le 4 0x424f_4c42)
    → b₂ ≡ sets b₁ (at + 4) (le 8 h.sum.low)
    → b₃ ≡ sets b₂ (at + 12) (le 8 h.sum.high)
    → b₄ ≡ sets b₃ (at + 20) (le 8 h.seqno)
    → b₅ ≡ sets b₄ (at + 28) (le 2 h.key)
    → b₆ ≡ sets b₅ (at + 30) (le 4 h.stated)
    → b₇ ≡ sets b₆ (at + 34) (le 4 h.size)
    → b₇ ≡ sets b₀ at (header_bytes h)
unfolding header_bytes
header-stored b₀ b₁ b₂ b₃ b₄ b₅ b₆ b₇ at h p₁ p₂ p₃ p₄ p₅ p₆ p₇ =
    let m : le 4 0x424f_4c42 ≡ blob = le-blob in
    let q₁ : b₁ ≡ sets b₀ at blob = rw m at p₁ in
    let a₂ = blob ++ le 8 h.sum.low in
    let a₃ = a₂ ++ le 8 h.sum.high in
    let a₄ = a₃ ++ le 8 h.seqno in
    let a₅ = a₄ ++ le 2 h.key in
    let a₆ = a₅ ++ le 4 h.stated in
    let q₂ = sets_then b₀ b₁ b₂ blob (le 8 h.sum.low) at (at + 4) q₁ p₂ refl in
    let q₃ = sets_then b₀ b₂ b₃ a₂ (le 8 h.sum.high) at (at + 12) q₂ p₃ (simp (length-append, length-le)) in
    let q₄ = sets_then b₀ b₃ b₄ a₃ (le 8 h.seqno) at (at + 20) q₃ p₄ (simp (length-append, length-le)) in
    let q₅ = sets_then b₀ b₄ b₅ a₄ (le 2 h.key) at (at + 28) q₄ p₅ (simp (length-append, length-le)) in
    let q₆ = sets_then b₀ b₅ b₆ a₅ (le 4 h.stated) at (at + 30) q₅ p₆ (simp (length-append, length-le)) in
    sets_then b₀ b₆ b₇ a₆ (le 4 h.size) at (at + 34) q₆ p₇ (simp (length-append, length-le))

-- Stores before those that are there already.

set-sets : (b l : List ℕ) (i j x : ℕ) → i < j → set (sets l j b) i x ≡ sets (set l i x) j b
set-sets [] l i j x h = refl
set-sets (y ∷ b) l i j x h =
    let n : i ≡ j → ⊥ = λ e. omega arith in
    let e : set (set l i x) j y ≡ set (set l j y) i x = set_comm l i j x y n in
    set-sets b (set l j y) i (suc j) x (omega arith) ∙ ap (λ (z : List ℕ). sets z (suc j) b) (sym e)

pub sets-before : (a b l : List ℕ) (i j : ℕ) → j ≡ i + length a → sets (sets l j b) i a ≡ sets l i (a ++ b)
sets-before [] b l i j e = let f : j ≡ i = omega arith in rw f
sets-before (x ∷ a) b l i j e =
    let f : set (sets l j b) i x ≡ sets (set l i x) j b = set-sets b l i j x (omega arith) in
    rw f (sets-before a b (set l i x) (suc i) j (omega arith))

-- what was stored is what stands there
pub sets-there : (v l b : List ℕ) (i n : ℕ) → b ≡ sets l i v → i + length v ≤ length l → n ≡ length v → take n (drop i b) ≡ v
sets-there v l b i n e fits m =
    let d : drop i b ≡ v ++ drop (i + length v) l =
    rw (e, sets-eq v l i fits, append_assoc) (drop_at (take i l) (v ++ drop (i + length v) l) i (length-take-le i l (omega arith))) in
    rw d (take_at v (drop (i + length v) l) n (sym m))

-- the frame's stores: key, value, and then the header with their sum
pub frame-stored : (b₀ b₁ b₂ b₃ key value : List ℕ) (at seqno stated : ℕ) (sum : Hash128)
    → at + header_length + length key + length value ≤ length b₀
    → b₁ ≡ sets b₀ (at + header_length) key
    → b₂ ≡ sets b₁ (at + header_length + length key) value
    → sum ≡ xxh3_128 (take (length key + length value) (drop (at + header_length) b₂))
    → b₃ ≡ sets b₂ at (header_bytes (record { sum = sum; seqno = seqno; key = length key; stated = stated; size = length value }))
    → b₃ ≡ sets b₀ at (frame_bytes (record { key = key; seqno = seqno; stated = stated; value = value }))
unfolding frame_bytes
frame-stored b₀ b₁ b₂ b₃ key value at seqno stated sum fits p₁ p₂ s p₃ =
    let body : b₂ ≡ sets b₀ (at + header_length) (key ++ value) = sets_then b₀ b₁ b₂ key value (at + header_length) (at + header_length + length key) p₁ p₂ refl in
    let n : length key + length value ≡ length (key ++ value) = simp length-append in
    let there : take (length key + length value) (drop (at + header_length) b₂) ≡ key ++ value =
    sets-there (key ++ value) b₀ b₂ (at + header_length) (length key + length value) body (omega (arith, n, fits)) n in
    let e : sum ≡ xxh3_128 (key ++ value) = rw there at s in
    let h = header_bytes (header_for (record { key = key; seqno = seqno; stated = stated; value = value })) in
    p₃ ∙ rw (e, body) (sets-before h (key ++ value) b₀ at (at + header_length) (simp length-header) ∙ ap (λ (l : List ℕ). sets b₀ at l) (sym (append_assoc h key value)))

-- A mark read as a number, where each byte is below 256.

digit : (b m x : ℕ) → b < 256 → eqb (b + 256 * m) x ≡ pick (eqb b (x % 256)) (eqb m (x / 256)) false
unfolding pick
digit b m x h = by (ℕ_discrete b (x % 256)) (ℕ_discrete m (x / 256))
  where
    by : Dec (b ≡ x % 256) → Dec (m ≡ x / 256) → eqb (b + 256 * m) x ≡ pick (eqb b (x % 256)) (eqb m (x / 256)) false
    by (yes e) (yes f) =
        let g : b + 256 * m ≡ x = omega arith in
        eq-eqb _ _ g ∙ sym (simp (eq-eqb _ _ e, eq-eqb _ _ f))
    by (yes e) (no f) =
        let g : b + 256 * m ≡ x → ⊥ = λ (z : b + 256 * m ≡ x). f (omega arith) in
        ne_eqb _ _ g ∙ sym (simp (eq-eqb _ _ e, ne_eqb _ _ f))
    by (no e) f =
        let g : b + 256 * m ≡ x → ⊥ = λ (z : b + 256 * m ≡ x). e (omega arith) in
        ne_eqb _ _ g ∙ sym (simp (ne_eqb _ _ e))

pub starts-le : (n x : ℕ) (p : List ℕ) → n ≤ length p → ((i : ℕ) → get_or p i 0 < 256) → x < 256 ^ n → eqb (num n p) x ≡ starts (le n x) p
unfolding num le starts
starts-le zero x p l f h = let e : 0 ≡ x = omega arith in eq-eqb _ _ e
starts-le (suc n) x [] l f h = absurd (omega arith)
starts-le (suc n) x (b ∷ p) l f h =
    let i : eqb (num n p) (x / 256) ≡ starts (le n (x / 256)) p =
    starts-le n (x / 256) p (omega arith) (λ (j : ℕ). f (suc j)) ((div-lt_iff_lt-mul (lit< tt)).1 (rw pow-suc at h)) in
    digit b (num n p) x (f 0) ∙ rw i
