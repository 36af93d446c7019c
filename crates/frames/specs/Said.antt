-- What `{}` prints of a writer's refusal; the words are ours, document 01 has none.
use Rattle.std.specs.Prelude.{ℕ, List, codes}
use Rattle.frames.specs.declared.refused.AppendRefusal.{AppendRefusal}
use Rattle.frames.specs.declared.refused.AppendRefusal.TheVariants as append
use Rattle.frames.specs.declared.refused.FinishRefusal.{FinishRefusal}
use Rattle.frames.specs.declared.refused.FinishRefusal.TheVariants as finish
use Rattle.frames.specs.declared.refused.NextRefusal.{NextRefusal}
use Rattle.frames.specs.declared.refused.NextRefusal.TheVariants as next

abbrev pub append_said : AppendRefusal → List ℕ
append_said append.Finished = codes "the file is finished"
append_said append.BadKey = codes "a key of no byte, or of more than 65,535"
append_said append.ValueTooLong = codes "a value of 2^32 bytes or more"
append_said append.NoRoom = codes "no room for the frame and the end mark"
append_said append.SumTooBig = codes "a total would pass its width"

abbrev pub finish_said : FinishRefusal → List ℕ
finish_said finish.Finished = codes "the file is finished"
finish_said finish.NothingWritten = codes "nothing is written"
finish_said finish.NoRoom = codes "no room for the end mark"

abbrev pub next_said : NextRefusal → List ℕ
next_said next.NotFinished = codes "the file is not finished"
next_said next.IdsUsedUp = codes "no file id is left"
