-- The theorems of specs/Theorems.antt, all of them: each is proved in the file that it is taken from here.
use Rattle.frames.specs.StepLaws.{frame_is}
use Rattle.frames.specs.Theorems.{Theorems}
use Rattle.frames.proofs.Written.{bytes, scan-back, read_back_lem, reports}
use Rattle.frames.proofs.Moved.{progress, over}
use Rattle.frames.proofs.Walking.{walk_on_lem}
use Rattle.frames.proofs.Short.{short}

pub theorems : Theorems
theorems = record {
  bytes = bytes;
  scan_back = scan-back;
  read_back = read_back_lem;
  reports = reports;
  progress = progress;
  over = over;
  walk_on = walk_on_lem;
  entry_is_frame = λ s w next e f q. frame_is s f w e next q;
  cut = short;
}
