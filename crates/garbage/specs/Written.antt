-- Files as the writer's definition gives them (demand 3, second layer).
use Rattle.std.specs.Prelude.{ℕ, ◌<◌, ◌^◌, ◌≡◌, List, [], ◌∷◌, map, Bool, true, false, length}
use Rattle.frames.specs.declared.state.Writer.{Writer}
use Rattle.frames.specs.Write.{report_of}
use Rattle.frames.specs.Runs.{Call, Typed, Frame as Accepted, Run, run}
use Rattle.garbage.specs.Files.{Frame, File}

-- calls made of a writer in one buffer, and which of the accepted frames' pointers are dropped
pub record Written : Type 0 where
  pub writer : Writer
  pub buffer : List ℕ
  pub calls : List Call
  pub gone : List Bool

abbrev pub run_of : Written → Run
run_of f = run f.calls f.writer f.buffer

-- finished files, "each written from offset 0 and zero counts": any id and target, plain and raw appends, target settings and finishes,
-- accepted and refused mixed, finished by either way
pub record FromZero (f : Written) : Type 0 where
  pub unfinished : f.writer.finished ≡ false
  pub offset : f.writer.offset ≡ 0
  pub items : f.writer.items ≡ 0
  pub disk : f.writer.disk ≡ 0
  pub stated : f.writer.stated ≡ 0
  pub id : f.writer.id < 2 ^ 64
  pub room : length f.buffer < 2 ^ 64
  pub typed : Typed f.calls
  pub done : (run_of f).writer.finished ≡ true

abbrev pub AllFromZero : List Written → Type 0
AllFromZero [] = Unit {0}
AllFromZero (f ∷ fs) = FromZero f × AllFromZero fs

-- the indirections that the appends handed out, each with whether it is dropped; where that is not said, it is not
abbrev pub with_drops : List Accepted → List Bool → List Frame
with_drops [] gone = []
with_drops (f ∷ fs) [] = record { pointer = f.pointer; gone = false } ∷ with_drops fs []
with_drops (f ∷ fs) (b ∷ gone) = record { pointer = f.pointer; gone = b } ∷ with_drops fs gone

abbrev pub file_of : Written → File
file_of f = record { id = f.writer.id; frames = with_drops (run_of f).frames f.gone; report = report_of (run_of f).writer }

abbrev pub files_of : List Written → List File
files_of fs = map file_of fs

pub data Among (f : Written) : List Written → Type 0 where
  here : {fs : List Written} → Among f (f ∷ fs)
  there : {g : Written} {fs : List Written} → Among f fs → Among f (g ∷ fs)
