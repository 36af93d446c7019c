-- Document 01's marked examples T1 to T12, of the definitions that the contracts cite, as one statement.
use Rattle.std.specs.Prelude.{ℕ, ◌-◌, ◌^◌, ◌≡◌, [], ◌∷◌, true, false}
use Rattle.numbers.specs.Leb128.{shortest}
use Rattle.numbers.specs.Handle.{handle_bytes}
use Rattle.numbers.specs.Marked.{marked-numbers}
use Rattle.std.specs.declared.cmp.Ordering.TheVariants.{Less, Equal}
use Rattle.merge.specs.Order.{order_of}
use Rattle.merge.specs.Merge.{ranked}
use Rattle.merge.specs.Marked.{marked_merge}
use Rattle.garbage.specs.Maps.{empty_map}
use Rattle.garbage.specs.Stored.{stored_form}
use Rattle.garbage.specs.Marked.{whole24, marked-garbage}

pub record Marked : Type 0 where
  -- LEB128, written shortest
  pub t1 : shortest 0 ≡ 0x00 ∷ []
  pub t2 : shortest 127 ≡ 0x7f ∷ []
  pub t3 : shortest 128 ≡ 0x80 ∷ 0x01 ∷ []
  pub t4 : shortest 300 ≡ 0xac ∷ 0x02 ∷ []
  pub t5 : shortest (2 ^ 32 - 1) ≡ 0xff ∷ 0xff ∷ 0xff ∷ 0xff ∷ 0x0f ∷ []
  -- handle id 9, offset 300, size 128
  pub t6 : handle_bytes (record { offset = 300; file = 9; size = 128 }) ≡ 0xac ∷ 0x02 ∷ 0x09 ∷ 0x80 ∷ 0x01 ∷ []
  -- key "10" precedes "9"; of one key, seqno 10 precedes 9, whatever the parts, and not the other way round
  pub t7 : order_of (49 ∷ 48 ∷ []) (57 ∷ []) ≡ Less
  pub t8 : (p q : ℕ) → (ranked Equal 10 p 9 q ≡ true) × (ranked Equal 9 p 10 q ≡ false)
  -- rounding to binary32's 24 bits
  pub t9 : whole24 16777217 ≡ 16777216
  pub t10 : whole24 16777219 ≡ 16777220
  pub t11 : whole24 18446744073709551615 ≡ 2 ^ 64
  -- an empty map, stored
  pub t12 : stored_form empty_map ≡ 0x00 ∷ 0x00 ∷ 0x00 ∷ 0x00 ∷ []

pub marked : Marked
marked = record {
  t1 = marked-numbers.0;
  t2 = marked-numbers.1;
  t3 = marked-numbers.2;
  t4 = marked-numbers.3;
  t5 = marked-numbers.4;
  t6 = marked-numbers.5;
  t7 = marked_merge.0;
  t8 = marked_merge.1;
  t9 = marked-garbage.0;
  t10 = marked-garbage.1;
  t11 = marked-garbage.2;
  t12 = marked-garbage.3;
}
