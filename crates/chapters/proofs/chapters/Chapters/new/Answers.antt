use Rattle.std.proofs.Common.{refl}
use Rattle.chapters.proofs.Numbers.{chapter_0_of_16}
use Rattle.chapters.proofs.chapters.Chapters.new.Goals as goal

pub returns-clause-sixteen : goal.returns-clause-sixteen
returns-clause-sixteen c = chapter_0_of_16 _ refl
