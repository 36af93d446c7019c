-- Finished files as lists of pointers with a report, and which pointers were dropped (demand 3, first layer).
use Rattle.std.specs.Prelude.{ℕ, ◌+◌, ◌≡◌, List, [], ◌∷◌, ◌++◌, Bool, true, false, ◌&&◌, ◌||◌, eqb}
use Rattle.numbers.specs.Pick.{pick}
use Rattle.numbers.specs.declared.handle.BlobIndirection.{BlobIndirection}
use Rattle.frames.specs.declared.writer.Report.{Report}
use Rattle.garbage.specs.Tallies.{Typed}

-- a frame's pointer, and whether it is among the drops: so each is dropped at most once
pub record Frame : Type 0 where
  pub pointer : BlobIndirection
  pub gone : Bool

pub record File : Type 0 where
  pub id : ℕ
  pub frames : List Frame
  pub report : Report

unfoldable pub gone_of : List Frame → List BlobIndirection
gone_of [] = []
gone_of (f ∷ fs) = pick f.gone (f.pointer ∷ gone_of fs) (gone_of fs)

-- the drops of all files, one file after another
unfoldable pub all_gone : List File → List BlobIndirection
all_gone [] = []
all_gone (f ∷ fs) = gone_of f.frames ++ all_gone fs

unfoldable pub stated_of : List Frame → ℕ
stated_of [] = 0
stated_of (f ∷ fs) = f.pointer.stated + stated_of fs

-- its pointers name the file, and their numbers are what the types say
abbrev pub Own : ℕ → List Frame → Type 0
Own id [] = Unit {0}
Own id (f ∷ fs) = (f.pointer.handle.file ≡ id) × Typed f.pointer × Own id fs

-- what is known of a finished file: the report's stated bytes are those of all its frames
pub record Finished (f : File) : Type 0 where
  pub own : Own f.id f.frames
  pub total : f.report.stated ≡ stated_of f.frames

abbrev pub AllFinished : List File → Type 0
AllFinished [] = Unit {0}
AllFinished (f ∷ fs) = Finished f × AllFinished fs

-- distinct ids
abbrev pub Apart : ℕ → List File → Type 0
Apart id [] = Unit {0}
Apart id (f ∷ fs) = (f.id ≡ id → ⊥) × Apart id fs

abbrev pub Distinct : List File → Type 0
Distinct [] = Unit {0}
Distinct (f ∷ fs) = Apart f.id fs × Distinct fs

pub data In (f : File) : List File → Type 0 where
  here : {fs : List File} → In f (f ∷ fs)
  there : {g : File} {fs : List File} → In f fs → In f (g ∷ fs)

-- at least one of its frames was dropped
unfoldable pub some_gone : List Frame → Bool
some_gone [] = false
some_gone (f ∷ fs) = f.gone || some_gone fs

-- every frame with a stated length above zero was dropped
unfoldable pub heavy_gone : List Frame → Bool
heavy_gone [] = true
heavy_gone (f ∷ fs) = (f.gone || eqb f.pointer.stated 0) && heavy_gone fs
