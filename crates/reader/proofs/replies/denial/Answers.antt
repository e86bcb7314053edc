-- Five bytes of the fault, and four of the offset.
use Rattle.std.proofs.Common.{◌≡◌, ℕ, List, [], ◌∷◌, rules, ◌∙◌}
use Rattle.answers.specs.Faults.{number, places, layer_number}
use Rattle.answers.specs.Verdicts.{or_255}
use Rattle.reader.proofs.Outcomes.{four_bytes}
use Rattle.reader.proofs.Writing.{behind, given_back}
use Rattle.reader.proofs.replies.denial.Goals as goal

pub returns : goal.returns
returns c =
    let why = c.args.fault.refusal in
    let told : ◌≡◌ {A = List ℕ} (c.number.result ∷ c.number-2.result ∷ c.unwrap_or.result ∷ c.unwrap_or-2.result ∷ [])
    (number why ∷ layer_number c.args.fault.layer ∷ or_255 (places why).0 ∷ or_255 (places why).1 ∷ []) = search rules in
    given_back (behind (behind c.new.ensures.holds c.with.ensures.adds told) c.with-2.ensures.adds (c.to_le_bytes.ensures ∙ four_bytes c.args.offset)) (search rules)
