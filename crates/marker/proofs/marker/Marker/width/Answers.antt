-- The points counted are those of the chapter.
use Rattle.std.proofs.Common.{◌≡◌, ℕ, zero, suc, ◌+◌, ◌-◌, eqb, filter, length, length-append, cond, Bool, true, false, ◌∷◌, [], ◌++◌, refl, ap, ◌∙◌, sym, add-one, arith, rules, tests}
use Rattle.std.specs.List.{range_with_len}
use Rattle.std.proofs.lemmas.Iterator.{YieldsList-from_range}
use Rattle.std.proofs.lemmas.Iterator.Consumers.{YieldsList-from_filter, YieldsList-at, count_from_yields_List}
use Rattle.std.proofs.lemmas.List.{map-id}
use Rattle.std.proofs.lemmas.List.FromFn.{filter_of_map_range_with_len_more}
use Rattle.rulings.specs.Points.{Points}
use Rattle.semantics.specs.Listing.{count_below}
use Rattle.marker.specs.State.{placing}
use Rattle.marker.proofs.marker.Marker.width.Goals as goal

counted : (D : Points) (n : ℕ) → length (filter D (range_with_len 0 n)) ≡ count_below n D
counted D zero = refl
counted D (suc n) =
    let more = filter_of_map_range_with_len_more D (λ k. k) 0 n n (omega arith) in
    let pushed : filter D (range_with_len 0 (n + 1)) ≡ filter D (range_with_len 0 n) ++ cond (D n) (n ∷ []) [] = simp map-id at more in
    ap (λ (k : ℕ). length (filter D (range_with_len 0 k))) (sym (add-one n)) ∙ (ap length pushed ∙ (length-append (filter D (range_with_len 0 n)) (cond (D n) (n ∷ []) []) ∙ last (D n) (counted D n)))
  where
    last : (t : Bool) → length (filter D (range_with_len 0 n)) ≡ count_below n D → length (filter D (range_with_len 0 n)) + length (cond t (n ∷ []) []) ≡ cond t 1 0 + count_below n D
    last true e = omega arith
    last false e = omega arith

pub returns : goal.returns
returns g c =
    let s = c.args.self.now in
    let D : Points = λ a. eqb (placing s a) c.args.number in
    let size = c.size.result in
    let least : size - 0 ≡ size = omega arith in
    count_from_yields_List c.filter.result c.count.result c.count.ensures.ran
    (YieldsList-from_filter _ D (YieldsList-at c.filter.ensures.source (YieldsList-from_range 0 size size refl least)) c.filter.ensures.closure (λ x r q k. search (rules, tests)))
    ∙ (counted D size ∙ ap (λ (n : ℕ). count_below n D) c.size.ensures)
