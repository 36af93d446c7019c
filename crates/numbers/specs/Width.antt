-- How large a number of so many bytes may be.
use Rattle.std.specs.Prelude.{◌≡◌, ℕ, ◌+◌, ◌*◌, ◌^◌, ◌≤◌, refl}
use Rattle.std.proofs.Common.{lit≤}

-- one to eight bytes, and the largest number that they hold
pub record Holds (width max : ℕ) : Type 0 where
  pub some : 1 ≤ width
  pub most : width ≤ 8
  pub all : max + 1 ≡ 2 ^ (8 * width)

pub holds16 : Holds 2 0xffff
holds16 = record { some = lit≤ tt; most = lit≤ tt; all = refl }

pub holds32 : Holds 4 0xffff_ffff
holds32 = record { some = lit≤ tt; most = lit≤ tt; all = refl }

pub holds64 : Holds 8 0xffff_ffff_ffff_ffff
holds64 = record { some = lit≤ tt; most = lit≤ tt; all = refl }
