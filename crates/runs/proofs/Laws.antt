-- The law of two histories, over any two languages of calls that keep what their kinds owe; and the marker's own calls.
use Rattle.std.proofs.Common.{◌≡◌, ℕ, ◌+◌, ◌⊎◌, ◌↔◌, List, sym, ◌∙◌, subst, inl, inr}
use Rattle.rulings.specs.Rulings.{has}
use Rattle.semantics.specs.Meaning.{Meaning}
use Rattle.semantics.specs.Closure.{Stable}
use Rattle.books.specs.declared.book.Book.{Ghosts as Sort}
use Rattle.marker.specs.declared.marker.Marker.{Marker}
use Rattle.answers.specs.declared.verdict.Verdict.TheVariants as says
use Rattle.runs.specs.History.{History, BrokenOff, AskedAt, Asked, Unchanged}
use Rattle.runs.specs.Law.{Law, Either, JudgingsAgree, Compared, ComparedSoFar, LawOfAllHistories}
use Rattle.runs.specs.Step.{Language, Kind, to_judge, to_judge_by_chapter, to_read, to_list, means, marker_calls}
use Rattle.runs.specs.Told.{Told, verdict, chapter_verdict, reading, listing}
use Rattle.runs.proofs.CallKinds.{Keeps, Promises, marker_keeps}
use Rattle.runs.proofs.Listings.{same_listing, same_listed}
use Rattle.runs.proofs.Moments.{step_of, between}
use Rattle.runs.proofs.Questions.{Owes, owes, denied_exactly, given_otherwise, given_is_not_denied, given, judging, judging_by_chapter, reading_whole, listing_all}
use Rattle.runs.proofs.Readings.{same_reading}

-- one history
module _ {B : Type 0} (L : Language B) (keeps : Keeps L) {s e : Marker B} {cs : List L.Calls} {ts : List Told} (h : History L s cs ts e) where
  asked_at : (i : ℕ) (q : Kind) (m : Meaning) (ch : ℕ → ℕ) (t : Told) → AskedAt h i q m ch t → Owes q m ch t
  asked_at i q m ch t a =
      subst (λ (x : Meaning). Owes q x ch t) a.meant
      (subst (λ (x : ℕ → ℕ). Owes q (means L.meaning (h.moment i)) x t) a.placed
      (owes L.meaning q (h.moment i) t (h.moment (i + 1)) (keeps.lawful (h.moment i).book) (step_of L keeps h i q m ch t a)))

  asked : (q : Kind) (m : Meaning) (ch : ℕ → ℕ) (t : Told) → Asked h q m ch t → Owes q m ch t
  asked q m ch t (i, a) = asked_at i q m ch t a

  judgings_agree : JudgingsAgree h
  judgings_agree y i j m m' ch ch' v w a b un =
      let one = given (judging m y) v (asked_at i (to_judge y) m ch (verdict v) a) in
      let other = given (judging_by_chapter m' ch' y) w (asked_at j (to_judge_by_chapter y) m' ch' (chapter_verdict w) b) in (
        same,
        one.stable,
        subst (λ (x : Meaning). (w.verdict ≡ says.Stable) ↔ Stable x (has y)) (sym same) other.stable,
      )
    where
      moments : Unchanged h i j ⊎ Unchanged h j i → means L.meaning (h.moment i) ≡ means L.meaning (h.moment j)
      moments (inl u) =
          sym (between L keeps h i j (to_judge y) (to_judge_by_chapter y) m m' ch ch' (verdict v) (chapter_verdict w) a b (λ e. cc) u)
      moments (inr u) =
          between L keeps h j i (to_judge_by_chapter y) (to_judge y) m' m ch' ch (chapter_verdict w) (verdict v) b a (λ e. cc) u

      same : m ≡ m'
      same = sym a.meant ∙ moments un ∙ b.meant

-- two histories
module _ {B C : Type 0} (L : Language B) (M : Language C) (keeps : Keeps L) (others : Keeps M) {s e : Marker B} {s' e' : Marker C}
    {cs : List L.Calls} {cs' : List M.Calls} {ts ts' : List Told} (h : History L s cs ts e) (k : History M s' cs' ts' e') where
  either : (q : Kind) (m : Meaning) (ch : ℕ → ℕ) (t : Told) → Either h k q m ch t → Owes q m ch t
  either q m ch t (inl a) = asked L keeps h q m ch t a
  either q m ch t (inr a) = asked M others k q m ch t a

  pub law : Law h k
  law =
      record {
        judging_denied = λ y m ch t w. denied_exactly (judging m y) t (either (to_judge y) m ch t w);
        judging_given = λ y m ch t w.
            (given_otherwise (judging m y) t (either (to_judge y) m ch t w), λ x. given_is_not_denied (judging m y) t x.0 x.1);
        judging_by_chapter_denied = λ y m ch t w. denied_exactly (judging_by_chapter m ch y) t (either (to_judge_by_chapter y) m ch t w);
        judging_by_chapter_given = λ y m ch t w.
            (given_otherwise (judging_by_chapter m ch y) t (either (to_judge_by_chapter y) m ch t w), λ x. given_is_not_denied (judging_by_chapter m ch y) t x.0 x.1);
        reading_denied = λ m ch t w. denied_exactly (reading_whole m ch) t (either to_read m ch t w);
        reading_given = λ m ch t w. (
          λ none. let g = given_otherwise (reading_whole m ch) t (either to_read m ch t w) none in (g.0.0, g.0.1, g.1),
          λ x. given_is_not_denied (reading_whole m ch) t (x.0, x.1) x.2,
        );
        listing_denied = λ n m ch t w. denied_exactly (listing_all m ch n) t (either (to_list n) m ch t w);
        listing_given = λ n m ch t w. (
          λ none. let g = given_otherwise (listing_all m ch n) t (either (to_list n) m ch t w) none in (g.0.0, g.0.1, g.1),
          λ x. given_is_not_denied (listing_all m ch n) t (x.0, x.1) x.2,
        );
        listed = λ n m ch rows effort w.
            let g = given (listing_all m ch n) (rows, effort) (either (to_list n) m ch (listing rows effort) w) in
            (g.whole, g.effort);
        listings_equal = λ n n' m m' ch ch' rows rows' effort effort' w w'.
            let g = given (listing_all m ch n) (rows, effort) (either (to_list n) m ch (listing rows effort) w) in
            let g' = given (listing_all m' ch' n') (rows', effort') (either (to_list n') m' ch' (listing rows' effort') w') in (
              λ same. same_listed (λ r. Stable m (has r)) (λ r. Stable m' (has r)) rows rows' same g.whole g'.whole,
              λ same. same_listing (λ r. Stable m (has r)) (λ r. Stable m' (has r)) rows rows' same g.whole g'.whole,
            );
        read = λ m ch sure possible w. (given (reading_whole m ch) (sure, possible) (either to_read m ch (reading sure possible) w)).model;
        readings_equal = λ m m' ch ch' sure possible sure' possible' w w'.
            same_reading m m' sure possible sure' possible'
            (given (reading_whole m ch) (sure, possible) (either to_read m ch (reading sure possible) w)).model
            (given (reading_whole m' ch') (sure', possible') (either to_read m' ch' (reading sure' possible') w')).model;
        judged_stable = λ y m ch v w. (given (judging m y) v (either (to_judge y) m ch (verdict v) w)).stable;
        judged_stable_by_chapter = λ y m ch v w. (given (judging_by_chapter m ch y) v (either (to_judge_by_chapter y) m ch (chapter_verdict v) w)).stable;
        judgings_agree = judgings_agree L keeps h;
        other_judgings_agree = judgings_agree M others k;
      }

-- two runs, ended or not, and their law
module _ {B C : Type 0} (L : Language B) (M : Language C) (keeps : Keeps L) (others : Keeps M) {s e : Marker B} {s' e' : Marker C} where
  pub compared : {cs : List L.Calls} {cs' : List M.Calls} {ts ts' : List Told} → History L s cs ts e → History M s' cs' ts' e' → Compared L s cs ts e M s' cs' ts' e'
  compared h k = record { first = h; second = k; law = law L M keeps others h k }

  pub compared_so_far : (cs : List L.Calls) (cs' : List M.Calls) → BrokenOff L s cs e → BrokenOff M s' cs' e' → ComparedSoFar L s cs e M s' cs' e'
  compared_so_far cs cs' (n, ts, within, h) (n', ts', within', k) = (n, n', ts, ts', within, within', compared h k)

-- the marker's own calls, over any two sorts of book
pub marker_law : {B C : Type 0} (S : Sort B) (T : Sort C) → Promises S → Promises T → LawOfAllHistories (marker_calls S) (marker_calls T)
marker_law S T p q s e s' e' cs cs' ts ts' h k = law (marker_calls S) (marker_calls T) (marker_keeps S p) (marker_keeps T q) h k
