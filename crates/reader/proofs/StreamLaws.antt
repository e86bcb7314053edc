-- The law of two streams: from bytes to what was told, and then by the law of two histories.
use Rattle.std.proofs.Common.{◌≡◌, ℕ, ◌⊎◌, ◌↔◌, List, ◌∷◌, ◌++◌, length, get_or, sym, refl, ap, ◌∙◌, subst, ap₂, inl, inr, arith}
use Rattle.std.specs.List.{flat_map}
use Rattle.std.proofs.Math.Logic.{⊎_map}
use Rattle.rulings.specs.Rulings.{has}
use Rattle.rulings.specs.declared.ruling.Ruling.{Ruling}
use Rattle.semantics.specs.Meaning.{Meaning}
use Rattle.semantics.specs.Closure.{Stable}
use Rattle.answers.specs.declared.fault.Fault.{Fault}
use Rattle.answers.specs.declared.verdict.Verdict.{Verdict}
use Rattle.answers.specs.declared.verdict.Verdict.TheVariants as says
use Rattle.answers.specs.declared.verdict.ChapterVerdict.{ChapterVerdict}
use Rattle.answers.specs.Verdicts.{verdict_number}
use Rattle.books.specs.declared.book.Book.{Ghosts as Sort}
use Rattle.marker.specs.declared.marker.Marker.{Marker}
use Rattle.runs.specs.History.{AskedAt, Unchanged}
use Rattle.runs.specs.Law.{Law, Either, NotDenied}
use Rattle.runs.specs.Step.{Kind, to_judge, to_judge_by_chapter, to_read, to_list, to_change, means}
use Rattle.marker.specs.State.{placing}
use Rattle.runs.specs.Told.{Told, done, verdict, chapter_verdict, reading, listing, audit, denied}
use Rattle.runs.proofs.CallKinds.{Promises}
use Rattle.runs.proofs.Laws.{marker_law}
use Rattle.reader.specs.Replies.{least_first, fault_reply, ruling_row, reply_of}
use Rattle.reader.specs.Streams.{Stream, offset}
use Rattle.reader.specs.StreamLaw.{InEither, Begins, without_effort, Denies, RepliesStable, NoChangeAccepted, VerdictsAgree, StreamLaw}
use mathlib.Core.List.{tail-eq_of_cons-eq as same_tail}
use Rattle.reader.proofs.Encodings.{denial_told, stable_number, same_ruling_rows, same_reading_reply}

through : {A B C : Type 0} → A ↔ B → B ↔ C → A ↔ C
through h k = (λ a. k.0 (h.0 a), λ c. h.1 (k.1 c))

-- one reply and what was told
module _ (o : ℕ) (t : Told) (reply : List ℕ) (e : reply ≡ reply_of o t) where
  denial : (f : Fault) → (reply ≡ fault_reply o f) ↔ (t ≡ denied f)
  denial f = (λ d. denial_told o o t f (sym e ∙ d), λ d. e ∙ ap (reply_of o) d)

  -- a reply that begins with a byte other than 255 denies nothing
  not_denied : (b : ℕ) → (b ≡ 255 → ⊥) → Begins b reply → NotDenied t
  not_denied b other begins f is = other (sym begins ∙ ap (λ (xs : List ℕ). get_or xs 0 0) ((denial f).1 is))

  -- a reply begins so exactly where it denies nothing, if what is not denied is told so
  given_exactly : (b : ℕ) → (b ≡ 255 → ⊥) → (NotDenied t → Begins b (reply_of o t)) → Begins b reply ↔ (Denies o reply → ⊥)
  given_exactly b other told_so = (
    λ begins d. not_denied b other begins d.0 ((denial d.0).0 d.1),
    λ none. ap (λ (xs : List ℕ). get_or xs 0 0) e ∙ told_so (λ f is. none (f, (denial f).1 is)),
  )

-- the first byte, by what was told
begins_as : (b o : ℕ) (t t' : Told) → t ≡ t' → Begins b (reply_of o t') → Begins b (reply_of o t)
begins_as b o t t' e h = ap (λ (x : Told). get_or (reply_of o x) 0 0) e ∙ h

-- only what was told done is replied to with 129
told_done : (o : ℕ) (t : Told) → Begins 129 (reply_of o t) → t ≡ done
told_done o done h = refl
told_done o (verdict v) h = absurd (omega arith)
told_done o (chapter_verdict w) h = absurd (omega arith)
told_done o (reading sure possible) h = absurd (omega arith)
told_done o (listing rows effort) h = absurd (omega arith)
told_done o (audit rows) h = absurd (omega arith)
told_done o (denied f) h = absurd (omega arith)

-- the second byte of a verdict
says_stable : (reply : List ℕ) (v : Verdict) → get_or reply 1 0 ≡ verdict_number v → RepliesStable reply ↔ (v ≡ says.Stable)
says_stable reply v e = (λ h. stable_number v (sym e ∙ h), λ h. e ∙ ap verdict_number h)

second_of : (o : ℕ) (t t' : Told) (reply : List ℕ) → reply ≡ reply_of o t → t ≡ t' → get_or reply 1 0 ≡ get_or (reply_of o t') 1 0
second_of o t t' reply e is = ap (λ (xs : List ℕ). get_or xs 1 0) (e ∙ ap (reply_of o) is)

-- two replies of listings, effort aside, are equal exactly if the rows are
same_listings : (o o' : ℕ) (rows rows' : List Ruling) (effort effort' : ℕ) (reply reply' : List ℕ) →
    reply ≡ reply_of o (listing rows effort) → reply' ≡ reply_of o' (listing rows' effort') →
    (without_effort reply ≡ without_effort reply') ↔ (rows ≡ rows')
same_listings o o' rows rows' effort effort' reply reply' e e' = (
  λ h. same_ruling_rows rows rows' (same_tail (same_tail (same_tail (sym (ap without_effort e) ∙ h ∙ ap without_effort e')))),
  λ h. ap without_effort e ∙ ap (λ (xs : List Ruling). 132 ∷ least_first 2 (length xs) ++ flat_map ruling_row xs) h ∙ sym (ap without_effort e'),
)

-- two replies of readings are equal exactly if the readings are
same_readings : (o o' : ℕ) (s p s' p' : Ruling) (reply reply' : List ℕ) →
    reply ≡ reply_of o (reading s p) → reply' ≡ reply_of o' (reading s' p') → (reply ≡ reply') ↔ ((s ≡ s') × (p ≡ p'))
same_readings o o' s p s' p' reply reply' e e' = (
  λ h. same_reading_reply o o' s p s' p' (sym e ∙ h ∙ e'),
  λ h. e ∙ ap₂ (λ (x y : Ruling). reply_of o (reading x y)) h.0 h.1 ∙ sym e',
)

-- one stream: a ruling judged whole and by chapter
module _ {B : Type 0} (S : Sort B) (p : Promises S) {s e : Marker B} {input output : List ℕ} (X : Stream S s input output e) where
  abbrev own_law : Law X.history X.history
  own_law = marker_law S S p p s e s e X.calls X.calls X.answers X.answers X.history X.history

  -- a change told done exactly where it was replied to with the byte of that
  unchanged : (i j : ℕ) → NoChangeAccepted X i j ↔ Unchanged X.history i j
  unchanged i j = (
    λ none.
        record {
          later = none.later;
          denied = λ n c t low high made answered change is.
              let m = means S.meaning (X.history.moment n) in
              let ch = placing (X.history.moment n) in
              let o = offset X.calls n in
              let asked : AskedAt X.history n to_change m ch t = record { call = c; made = made; of_kind = change; answered = answered; meant = refl; placed = refl } in
              none.denied n m ch (reply_of o t) low high (record { told = t; asked = asked; bytes = refl }) (begins_as 129 o t done is refl);
        },
    λ same.
        record {
          later = same.later;
          denied = λ n m ch reply low high r begins.
              same.denied n r.asked.call r.told low high r.asked.made r.asked.answered r.asked.of_kind
              (told_done (offset X.calls n) r.told (ap (λ (xs : List ℕ). get_or xs 0 0) (sym r.bytes) ∙ begins));
        },
  )

  agree : VerdictsAgree X
  agree y i j m m' ch ch' reply reply' r r' begins begins' un =
      let v = (own_law.judging_given y m ch r.told (inl (i, r.asked))).0
      (not_denied (offset X.calls i) r.told reply r.bytes 130 (λ z. omega arith) begins) in
      let w = (own_law.judging_by_chapter_given y m' ch' r'.told (inl (j, r'.asked))).0
      (not_denied (offset X.calls j) r'.told reply' r'.bytes 130 (λ z. omega arith) begins') in
      let both = own_law.judgings_agree y i j m m' ch ch' v.0 w.0
      (subst (AskedAt X.history i (to_judge y) m ch) v.1 r.asked)
      (subst (AskedAt X.history j (to_judge_by_chapter y) m' ch') w.1 r'.asked)
      (⊎_map (unchanged i j).0 (unchanged j i).0 un) in (
        both.0,
        through (says_stable reply v.0 (second_of (offset X.calls i) r.told (verdict v.0) reply r.bytes v.1)) both.1,
        through (says_stable reply' w.0.verdict (second_of (offset X.calls j) r'.told (chapter_verdict w.0) reply' r'.bytes w.1)) both.2,
      )

-- two streams
module _ {B C : Type 0} (S : Sort B) (S' : Sort C) (p : Promises S) (p' : Promises S') {s e : Marker B} {s' e' : Marker C}
    {input output input' output' : List ℕ} (X : Stream S s input output e) (Y : Stream S' s' input' output' e') where
  abbrev law : Law X.history Y.history
  law = marker_law S S' p p' s e s' e' X.calls Y.calls X.answers Y.answers X.history Y.history

  abbrev Answered : Kind → Meaning → (ℕ → ℕ) → Told → Type 0
  Answered q m ch t = Either X.history Y.history q m ch t

  -- what was told by the reply to a record
  told_in : (o : ℕ) (q : Kind) (m : Meaning) (ch : ℕ → ℕ) (reply : List ℕ) → InEither X Y o q m ch reply →
      (t : Told) × (reply ≡ reply_of o t) × Answered q m ch t
  told_in o q m ch reply (inl (i, at, r)) = (r.told, r.bytes ∙ ap (λ (n : ℕ). reply_of n r.told) (sym at), inl (i, r.asked))
  told_in o q m ch reply (inr (i, at, r)) = (r.told, r.bytes ∙ ap (λ (n : ℕ). reply_of n r.told) (sym at), inr (i, r.asked))

  -- a reply that begins with the byte of an answer is of one
  a_verdict : (y : Ruling) (o : ℕ) (m : Meaning) (ch : ℕ → ℕ) (reply : List ℕ) → InEither X Y o (to_judge y) m ch reply → Begins 130 reply →
      (v : Verdict) × (reply ≡ reply_of o (verdict v)) × Answered (to_judge y) m ch (verdict v)
  a_verdict y o m ch reply w begins =
      let (t, bytes, asked) = told_in o (to_judge y) m ch reply w in
      let v = (law.judging_given y m ch t asked).0 (not_denied o t reply bytes 130 (λ z. omega arith) begins) in
      (v.0, bytes ∙ ap (reply_of o) v.1, subst (Answered (to_judge y) m ch) v.1 asked)

  a_chapter_verdict : (y : Ruling) (o : ℕ) (m : Meaning) (ch : ℕ → ℕ) (reply : List ℕ) → InEither X Y o (to_judge_by_chapter y) m ch reply → Begins 130 reply →
      (v : ChapterVerdict) × (reply ≡ reply_of o (chapter_verdict v)) × Answered (to_judge_by_chapter y) m ch (chapter_verdict v)
  a_chapter_verdict y o m ch reply w begins =
      let (t, bytes, asked) = told_in o (to_judge_by_chapter y) m ch reply w in
      let v = (law.judging_by_chapter_given y m ch t asked).0 (not_denied o t reply bytes 130 (λ z. omega arith) begins) in
      (v.0, bytes ∙ ap (reply_of o) v.1, subst (Answered (to_judge_by_chapter y) m ch) v.1 asked)

  a_reading : (o : ℕ) (m : Meaning) (ch : ℕ → ℕ) (reply : List ℕ) → InEither X Y o to_read m ch reply → Begins 131 reply →
      (sure : Ruling) × (possible : Ruling) × (reply ≡ reply_of o (reading sure possible)) × Answered to_read m ch (reading sure possible)
  a_reading o m ch reply w begins =
      let (t, bytes, asked) = told_in o to_read m ch reply w in
      let v = (law.reading_given m ch t asked).0 (not_denied o t reply bytes 131 (λ z. omega arith) begins) in
      (v.0, v.1, bytes ∙ ap (reply_of o) v.2, subst (Answered to_read m ch) v.2 asked)

  a_listing : (o : ℕ) (m : Meaning) (ch : ℕ → ℕ) (reply : List ℕ) → InEither X Y o (to_list 64) m ch reply → Begins 132 reply →
      (rows : List Ruling) × (effort : ℕ) × (reply ≡ reply_of o (listing rows effort)) × Answered (to_list 64) m ch (listing rows effort)
  a_listing o m ch reply w begins =
      let (t, bytes, asked) = told_in o (to_list 64) m ch reply w in
      let v = (law.listing_given 64 m ch t asked).0 (not_denied o t reply bytes 132 (λ z. omega arith) begins) in
      (v.0, v.1, bytes ∙ ap (reply_of o) v.2, subst (Answered (to_list 64) m ch) v.2 asked)

  judged : (y : Ruling) (o : ℕ) (m : Meaning) (ch : ℕ → ℕ) (reply : List ℕ) → Begins 130 reply →
      InEither X Y o (to_judge y) m ch reply ⊎ InEither X Y o (to_judge_by_chapter y) m ch reply → RepliesStable reply ↔ Stable m (has y)
  judged y o m ch reply begins (inl w) =
      let (v, bytes, asked) = a_verdict y o m ch reply w begins in
      through (says_stable reply v (second_of o (verdict v) (verdict v) reply bytes refl)) (law.judged_stable y m ch v asked)
  judged y o m ch reply begins (inr w) =
      let (v, bytes, asked) = a_chapter_verdict y o m ch reply w begins in
      through (says_stable reply v.verdict (second_of o (chapter_verdict v) (chapter_verdict v) reply bytes refl)) (law.judged_stable_by_chapter y m ch v asked)

  laws : StreamLaw X Y
  laws =
      record {
        judging_denied = λ y o m ch reply w.
            let (t, bytes, asked) = told_in o (to_judge y) m ch reply w in (
              λ f. through (denial o t reply bytes f) (law.judging_denied y m ch t asked f),
              given_exactly o t reply bytes 130 (λ z. omega arith)
                  (λ none. let v = (law.judging_given y m ch t asked).0 none in begins_as 130 o t (verdict v.0) v.1 refl),
            );
        judging_by_chapter_denied = λ y o m ch reply w.
            let (t, bytes, asked) = told_in o (to_judge_by_chapter y) m ch reply w in (
              λ f. through (denial o t reply bytes f) (law.judging_by_chapter_denied y m ch t asked f),
              given_exactly o t reply bytes 130 (λ z. omega arith)
                  (λ none. let v = (law.judging_by_chapter_given y m ch t asked).0 none in begins_as 130 o t (chapter_verdict v.0) v.1 refl),
            );
        reading_denied = λ o m ch reply w.
            let (t, bytes, asked) = told_in o to_read m ch reply w in (
              λ f. through (denial o t reply bytes f) (law.reading_denied m ch t asked f),
              given_exactly o t reply bytes 131 (λ z. omega arith)
                  (λ none. let v = (law.reading_given m ch t asked).0 none in begins_as 131 o t (reading v.0 v.1) v.2 refl),
            );
        listing_denied = λ o m ch reply w.
            let (t, bytes, asked) = told_in o (to_list 64) m ch reply w in (
              λ f. through (denial o t reply bytes f) (law.listing_denied 64 m ch t asked f),
              given_exactly o t reply bytes 132 (λ z. omega arith)
                  (λ none. let v = (law.listing_given 64 m ch t asked).0 none in begins_as 132 o t (listing v.0 v.1) v.2 refl),
            );
        listed = λ o m ch reply w begins.
            let (rows, effort, bytes, asked) = a_listing o m ch reply w begins in
            let l = law.listed 64 m ch rows effort asked in
            (rows, effort, bytes, l.0, l.1);
        listings_equal = λ o o' m m' ch ch' reply reply' w w' begins begins'.
            let (rows, effort, bytes, asked) = a_listing o m ch reply w begins in
            let (rows', effort', bytes', asked') = a_listing o' m' ch' reply' w' begins' in
            through (same_listings o o' rows rows' effort effort' reply reply' bytes bytes')
            (law.listings_equal 64 64 m m' ch ch' rows rows' effort effort' asked asked');
        read = λ o m ch reply w begins.
            let (sure, possible, bytes, asked) = a_reading o m ch reply w begins in
            (sure, possible, bytes, law.read m ch sure possible asked);
        readings_equal = λ o o' m m' ch ch' reply reply' w w' begins begins'.
            let (sure, possible, bytes, asked) = a_reading o m ch reply w begins in
            let (sure', possible', bytes', asked') = a_reading o' m' ch' reply' w' begins' in
            through (same_readings o o' sure possible sure' possible' reply reply' bytes bytes')
            (law.readings_equal m m' ch ch' sure possible sure' possible' asked asked');
        judged_stable = judged;
        verdicts_agree = agree S p X;
        other_verdicts_agree = agree S' p' Y;
      }

-- the law of any two streams, over any two sorts of book that keep their promises
pub stream_law : {B C : Type 0} (S : Sort B) (S' : Sort C) → Promises S → Promises S' → {s e : Marker B} {s' e' : Marker C}
    {input output input' output' : List ℕ} (X : Stream S s input output e) (Y : Stream S' s' input' output' e') → StreamLaw X Y
stream_law S S' p p' X Y = laws S S' p p' X Y
