-- By the bytes, from the first on.
use Rattle.reader.proofs.Encodings.{reply_determines}
use Rattle.reader.proofs.laws.replies_determine_answers.Goals as goal

pub returns : goal.returns
returns c = reply_determines
