-- The refusals of what cannot be read.
use Rattle.answers.specs.declared.fault.Refusal.{Refusal}
use Rattle.answers.specs.declared.fault.Refusal.TheVariants.{UnknownRecord, CutRecord}
use Rattle.reader.specs.declared.unreadable.Unreadable.{Unreadable}
use Rattle.reader.specs.declared.unreadable.Unreadable.TheVariants.{Unknown, Cut}

abbrev pub refusal_of : Unreadable → Refusal
refusal_of Unknown = UnknownRecord
refusal_of Cut = CutRecord
