-- The totals of a writer with one more frame, by which of them would pass its width.
use Rattle.std.specs.Prelude.{◌+◌, ◌<◌, ◌≤◌, ◌≡◌, Option, Some, None, if◌then◌else◌}
use borrow.Author.Tests.{lt-ltb, le-ltb}
use Rattle.frames.specs.Write.{most, over_of, counted}
use Rattle.frames.specs.declared.shape.Shape.{Shape}
use Rattle.frames.specs.declared.state.Writer.{Writer}

module _ (w : Writer) (f : Shape) where
  abbrev totals : Option Writer
  totals = if over_of w f then None else Some (counted w f)

  pub over-items : most < w.items + 1 → totals ≡ None
  unfolding over_of
  over-items h = simp (lt-ltb _ _ h)

  module _ (few : w.items + 1 ≤ most) where
    pub over-disk : most < w.disk + f.value → totals ≡ None
    unfolding over_of
    over-disk h = simp (le-ltb _ _ few, lt-ltb _ _ h)

    module _ (little : w.disk + f.value ≤ most) where
      pub over-stated : most < w.stated + f.stated → totals ≡ None
      unfolding over_of
      over-stated h = simp (le-ltb _ _ few, le-ltb _ _ little, lt-ltb _ _ h)

      pub over_none : w.stated + f.stated ≤ most → totals ≡ Some (counted w f)
      unfolding over_of
      over_none h = simp (le-ltb _ _ few, le-ltb _ _ little, le-ltb _ _ h)
