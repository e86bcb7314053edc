-- The first byte that differs, by its lowest digit.
use Rattle.std.proofs.Common.{ℕ, Option, MatchOption, ◌≡◌, ◌≢◌, false, rules, subst, sym}
use borrow.Author.Tests.{tests}
use Rattle.std.proofs.lemmas.Iterator.{IsFirst-from_position, YieldsList-from_zip, YieldsList-from_slice}
use Rattle.rulings.specs.Points.{Lowest}
use Rattle.rulings.specs.Rulings.{differing}
use Rattle.rulings.specs.declared.ruling.Ruling.{Ruling}
use Rattle.rulings.proofs.Differences.{FirstApart, first_apart, lowest_differing}
use Rattle.rulings.proofs.ruling.Ruling.first_difference.Goals as goal
use Rattle.rulings.proofs.ruling.Ruling.first_difference.Goals.{After-position}

-- where a place was found, the bytes first differ there; where none was, no point is in one of the two alone
abbrev Found : Ruling → Ruling → Option ℕ → Type 0
Found r s found = MatchOption found ((a : ℕ) → differing r s a ≡ false) (FirstApart r s)

place_found : (c : After-position) → Found c.args.self c.args.other c.position.result
place_found c =
    let r = c.args.self in
    let s = c.args.other in
    first_apart r s c.position.result
    (IsFirst-from_position c.position.new.self _ c.position.result (λ p. p.0 ≢ p.1) (λ p. p.0 ≡ p.1) c.position.ensures.ran
    (YieldsList-from_zip (YieldsList-from_slice r.bytes (cc)) (YieldsList-from_slice s.bytes (cc))) (λ x q k. search (rules, tests)) (λ x q k. search (rules, tests)))

pub returns-in_err-place : goal.returns-in_err-place
returns-in_err-place c =
    let r = c.args.self in
    let s = c.args.other in
    subst (Lowest (differing r s)) (sym c.from_residual.ensures)
    (subst (Found r s) c.in_err-place.was (place_found (goal.at.returns-in_err-place c).After-position))

pub returns : goal.returns
returns c =
    let r = c.args.self in
    let s = c.args.other in
    lowest_differing r s c.in_ok-place.place (subst (Found r s) c.in_ok-place.was (place_found (goal.at.returns c).After-position))
