-- The verdict behind its first byte.
use Rattle.std.proofs.Common.{refl, rules}
use Rattle.reader.proofs.Writing.{behind, given_back}
use Rattle.reader.proofs.replies.verdict.Goals as goal

pub returns : goal.returns
returns c = given_back (behind c.new.ensures.holds c.with.ensures.adds refl) (search rules)
