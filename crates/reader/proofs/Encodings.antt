-- Records tell calls, and replies tell answers: neither encoding has two values with the same bytes.
use Rattle.std.proofs.Common.{◌≡◌, ℕ, ◌-◌, ◌^◌, ◌<◌, List, [], ◌∷◌, ◌++◌, length, get_or, Some, None, Option, sym, refl, ap, ◌∙◌, ap₂, arith, length-append}
use Rattle.std.specs.List.{flat_map}
use Rattle.rulings.specs.declared.ruling.Ruling.{Ruling}
use Rattle.rulings.proofs.Bytes.{same_list}
use Rattle.answers.specs.declared.audit.UpwardReading.{UpwardReading}
use Rattle.answers.specs.declared.fault.Fault.{Fault}
use Rattle.answers.specs.declared.fault.Refusal.{Refusal}
use Rattle.answers.specs.declared.fault.Refusal.TheVariants.{BadSize, NoSuchPoint, StrayMark, NoSupportersHere, BookFull, NothingEntered, NoSuchChapter, ReadsUpward, ChapterTooWide, TooMuchToTry, ListTooShort, InputTooLong, ReplyTooShort, UnknownRecord, CutRecord}
use Rattle.answers.specs.declared.fault.Layer.{Layer}
use Rattle.answers.specs.declared.fault.Layer.TheVariants as layer
use Rattle.answers.specs.declared.verdict.Verdict.{Verdict}
use Rattle.answers.specs.declared.verdict.Verdict.TheVariants as says
use Rattle.answers.specs.declared.verdict.ChapterVerdict.{ChapterVerdict}
use Rattle.answers.specs.Faults.{number, places, layer_number}
use Rattle.answers.specs.Verdicts.{or_255, verdict_number, verdict_point}
use Rattle.runs.specs.declared.call.Call.{Call}
use Rattle.runs.specs.declared.call.Call.TheVariants as call
use Rattle.runs.specs.Told.{Told, done, verdict, chapter_verdict, reading, listing, audit, denied}
use Rattle.reader.specs.declared.kind.Kind.{Kind}
use Rattle.reader.specs.declared.kind.Kind.TheVariants as kind
use Rattle.reader.specs.Records.{kind_byte, body_length, kind_of, body_of, Lends64}
use Rattle.reader.specs.Replies.{least_first, fault_reply, ruling_row, upward_row, reply_of, as_told, Fits, ReplyDetermines}
use mathlib.Core.List.{head-eq_of_cons-eq as same_head, tail-eq_of_cons-eq as same_tail}
use Rattle.reader.proofs.Blocks.{same_parts, same_joined, same_four, by_kind}

-- a kind is told by its byte
pub of_byte : ℕ → Kind
of_byte b = get_or (kind.Open ∷ kind.Open ∷ kind.Enter ∷ kind.Withdraw ∷ kind.Place ∷ kind.Judge ∷ kind.JudgeByChapter ∷ kind.Read ∷ kind.List ∷ kind.Audit ∷ []) b kind.Open

pub of_kind_byte : (k : Kind) → of_byte (kind_byte k) ≡ k
unfolding of_byte
of_kind_byte kind.Open = refl
of_kind_byte kind.Enter = refl
of_kind_byte kind.Withdraw = refl
of_kind_byte kind.Place = refl
of_kind_byte kind.Judge = refl
of_kind_byte kind.JudgeByChapter = refl
of_kind_byte kind.Read = refl
of_kind_byte kind.List = refl
of_kind_byte kind.Audit = refl

pub same_kind : (k l : Kind) → kind_byte k ≡ kind_byte l → k ≡ l
same_kind k l e = sym (of_kind_byte k) ∙ ap of_byte e ∙ of_kind_byte l

-- a body is as long as its kind says
pub length_body : (c : Call) → length (body_of c) ≡ body_length (kind_of c)
length_body (call.Open n) = refl
length_body (call.Enter a p q) = omega (arith, length-append p.bytes q.bytes, p.long, q.long)
length_body (call.Withdraw a) = refl
length_body (call.Place a k) = refl
length_body (call.Judge y) = y.long
length_body (call.JudgeByChapter y) = y.long
length_body call.Read = refl
length_body (call.List n) = refl
length_body (call.Audit n) = refl

-- calls by their kind and what they are given
abbrev Given : Kind → Type 0
Given kind.Open = ℕ
Given kind.Enter = ℕ × Ruling × Ruling
Given kind.Withdraw = ℕ
Given kind.Place = ℕ × ℕ
Given kind.Judge = Ruling
Given kind.JudgeByChapter = Ruling
Given kind.Read = Unit {0}
Given kind.List = ℕ
Given kind.Audit = ℕ

abbrev given : (c : Call) → Given (kind_of c)
given (call.Open n) = n
given (call.Enter a p q) = (a, p, q)
given (call.Withdraw a) = a
given (call.Place a k) = (a, k)
given (call.Judge y) = y
given (call.JudgeByChapter y) = y
given call.Read = tt
given (call.List n) = n
given (call.Audit n) = n

abbrev call_with : (k : Kind) → Given k → Call
call_with kind.Open n = call.Open n
call_with kind.Enter x = call.Enter x.0 x.1 x.2
call_with kind.Withdraw a = call.Withdraw a
call_with kind.Place x = call.Place x.0 x.1
call_with kind.Judge y = call.Judge y
call_with kind.JudgeByChapter y = call.JudgeByChapter y
call_with kind.Read x = call.Read
call_with kind.List n = call.List n
call_with kind.Audit n = call.Audit n

call_again : (c : Call) → call_with (kind_of c) (given c) ≡ c
call_again (call.Open n) = refl
call_again (call.Enter a p q) = refl
call_again (call.Withdraw a) = refl
call_again (call.Place a k) = refl
call_again (call.Judge y) = refl
call_again (call.JudgeByChapter y) = refl
call_again call.Read = refl
call_again (call.List n) = refl
call_again (call.Audit n) = refl

-- the same body of the same kind is the same call, where 64 rows are lent
abbrev ToldByBody : Call → Call → Type 0
ToldByBody c d = Lends64 c → Lends64 d → body_of c ≡ body_of d → c ≡ d

same_entry : (a b : ℕ) (p q r s : Ruling) → a ∷ p.bytes ++ q.bytes ≡ b ∷ r.bytes ++ s.bytes → call.Enter a p q ≡ call.Enter b r s
same_entry a b p q r s e =
    let both = same_parts p.bytes r.bytes q.bytes s.bytes (p.long ∙ sym r.long) (same_tail e) in
    let h = same_head e in
    let u = same_list p r both.0 in
    let v = same_list q s both.1 in
    cc

same_given : (k : Kind) (x y : Given k) → ToldByBody (call_with k x) (call_with k y)
same_given kind.Open x y l m e = ap call.Open (same_head e)
same_given kind.Enter x y l m e = same_entry x.0 y.0 x.1 x.2 y.1 y.2 e
same_given kind.Withdraw x y l m e = ap call.Withdraw (same_head e)
same_given kind.Place x y l m e = ap₂ call.Place (same_head e) (same_head (same_tail e))
same_given kind.Judge x y l m e = ap call.Judge (same_list x y e)
same_given kind.JudgeByChapter x y l m e = ap call.JudgeByChapter (same_list x y e)
same_given kind.Read x y l m e = refl
same_given kind.List x y l m e = ap call.List (l ∙ sym m)
same_given kind.Audit x y l m e = ap call.Audit (l ∙ sym m)

pub same_body : (c d : Call) → kind_of c ≡ kind_of d → Lends64 c → Lends64 d → body_of c ≡ body_of d → c ≡ d
same_body c d e = by_kind kind_of Given given call_with (λ x. x) call_again ToldByBody same_given c d e

-- a refusal is told by its number and its two places, a layer by its number
of_number : ℕ → ℕ → ℕ → Refusal
of_number n a b =
    get_or (BadSize ∷ BadSize ∷ NoSuchPoint a ∷ StrayMark a ∷ NoSupportersHere a ∷ BookFull ∷ NothingEntered a ∷ NoSuchChapter a ∷ ReadsUpward a b ∷ ChapterTooWide a ∷ TooMuchToTry ∷ ListTooShort ∷ InputTooLong ∷ ReplyTooShort ∷ UnknownRecord ∷ CutRecord ∷ []) n BadSize

of_its_number : (r : Refusal) → of_number (number r) (or_255 (places r).0) (or_255 (places r).1) ≡ r
unfolding of_number
of_its_number BadSize = refl
of_its_number (NoSuchPoint a) = refl
of_its_number (StrayMark a) = refl
of_its_number (NoSupportersHere a) = refl
of_its_number BookFull = refl
of_its_number (NothingEntered a) = refl
of_its_number (NoSuchChapter a) = refl
of_its_number (ReadsUpward a b) = refl
of_its_number (ChapterTooWide k) = refl
of_its_number TooMuchToTry = refl
of_its_number ListTooShort = refl
of_its_number InputTooLong = refl
of_its_number ReplyTooShort = refl
of_its_number UnknownRecord = refl
of_its_number CutRecord = refl

layer_of : ℕ → Layer
layer_of n = get_or (layer.Book ∷ layer.Book ∷ layer.Marker ∷ layer.Reader ∷ []) n layer.Book

layer_of_its_number : (l : Layer) → layer_of (layer_number l) ≡ l
unfolding layer_of
layer_of_its_number layer.Book = refl
layer_of_its_number layer.Marker = refl
layer_of_its_number layer.Reader = refl

-- a fault from the first five bytes of its reply
fault_at : List ℕ → Fault
fault_at xs = record { refusal = of_number (get_or xs 1 0) (get_or xs 3 0) (get_or xs 4 0); layer = layer_of (get_or xs 2 0) }

fault_again : (o : ℕ) (f : Fault) → fault_at (fault_reply o f) ≡ f
unfolding fault_at
fault_again o f = λ i. record { refusal = of_its_number f.refusal i; layer = layer_of_its_number f.layer i }

-- a fault is told by its reply
pub same_fault : (o o' : ℕ) (f f' : Fault) → fault_reply o f ≡ fault_reply o' f' → f ≡ f'
same_fault o o' f f' e = sym (fault_again o f) ∙ ap fault_at e ∙ fault_again o' f'

-- a verdict is told by its number and its point
of_verdict_number : ℕ → ℕ → Verdict
of_verdict_number n a = get_or (says.Stable ∷ says.Unfounded a ∷ says.Missing a ∷ []) n says.Stable

of_its_verdict_number : (v : Verdict) → of_verdict_number (verdict_number v) (or_255 (verdict_point v)) ≡ v
unfolding of_verdict_number
of_its_verdict_number says.Stable = refl
of_its_verdict_number (says.Unfounded a) = refl
of_its_verdict_number (says.Missing a) = refl

pub stable_number : (v : Verdict) → verdict_number v ≡ 0 → v ≡ says.Stable
stable_number says.Stable e = refl
stable_number (says.Unfounded a) e = absurd (omega arith)
stable_number (says.Missing a) e = absurd (omega arith)

-- a chapter is told by its byte, unless it is 255
same_chapter : (k l : Option ℕ) → (k ≡ Some 255 → ⊥) → (l ≡ Some 255 → ⊥) → or_255 k ≡ or_255 l → k ≡ l
same_chapter None None h h' e = refl
same_chapter None (Some b) h h' e = absurd (h' (ap Some (sym e)))
same_chapter (Some a) None h h' e = absurd (h (ap Some e))
same_chapter (Some a) (Some b) h h' e = ap Some e

same_chapter_verdict : (v w : ChapterVerdict) → (v.chapter ≡ Some 255 → ⊥) → (w.chapter ≡ Some 255 → ⊥) →
    verdict_number v.verdict ≡ verdict_number w.verdict → or_255 (verdict_point v.verdict) ≡ or_255 (verdict_point w.verdict) →
    or_255 v.chapter ≡ or_255 w.chapter → v ≡ w
same_chapter_verdict v w h h' n p k =
    let same_verdict : v.verdict ≡ w.verdict =
    sym (of_its_verdict_number v.verdict) ∙ ap₂ of_verdict_number n p ∙ of_its_verdict_number w.verdict in
    λ i. record { verdict = same_verdict i; chapter = same_chapter v.chapter w.chapter h h' k i }

-- rows are told by their blocks
pub same_ruling_rows : (xs ys : List Ruling) → flat_map ruling_row xs ≡ flat_map ruling_row ys → xs ≡ ys
same_ruling_rows = same_joined ruling_row 17 (λ r. omega (arith, r.long)) (omega arith) (λ r s e. same_list r s (same_tail e))

same_upward : (u v : UpwardReading) → upward_row u ≡ upward_row v → u ≡ v
same_upward u v e = λ i. record {
  drop = same_head (same_tail e) i;
  reader = same_head (same_tail (same_tail e)) i;
  read = same_head (same_tail (same_tail (same_tail e))) i;
}

same_upward_rows : (xs ys : List UpwardReading) → flat_map upward_row xs ≡ flat_map upward_row ys → xs ≡ ys
same_upward_rows = same_joined upward_row 4 (λ u. refl) (omega arith) same_upward

-- Answers by the first byte of their replies. A verdict of the whole book is told as one by chapters, so there are six sorts.
data Reply : Type 0 where
  of_done of_verdict of_reading of_listing of_audit of_denial : Reply

abbrev sort_of : Told → Reply
sort_of done = of_done
sort_of (verdict v) = of_verdict
sort_of (chapter_verdict w) = of_verdict
sort_of (reading sure possible) = of_reading
sort_of (listing rows effort) = of_listing
sort_of (audit rows) = of_audit
sort_of (denied f) = of_denial

of_first : ℕ → Reply
of_first b = get_or (of_done ∷ of_verdict ∷ of_reading ∷ of_listing ∷ of_listing ∷ of_audit ∷ []) (b - 129) of_denial

-- the first byte of an answer's reply
sort_told : (o : ℕ) (t : Told) → of_first (get_or (reply_of o t) 0 0) ≡ sort_of t
unfolding of_first
sort_told o done = refl
sort_told o (verdict v) = refl
sort_told o (chapter_verdict w) = refl
sort_told o (reading sure possible) = refl
sort_told o (listing rows effort) = refl
sort_told o (audit rows) = refl
sort_told o (denied f) = refl

abbrev Holds : Reply → Type 0
Holds of_done = Unit {0}
Holds of_verdict = ChapterVerdict
Holds of_reading = Ruling × Ruling
Holds of_listing = List Ruling × ℕ
Holds of_audit = List UpwardReading
Holds of_denial = Fault

abbrev holds : (t : Told) → Holds (sort_of t)
holds done = tt
holds (verdict v) = record { verdict = v; chapter = None }
holds (chapter_verdict w) = w
holds (reading sure possible) = (sure, possible)
holds (listing rows effort) = (rows, effort)
holds (audit rows) = rows
holds (denied f) = f

abbrev told_with : (k : Reply) → Holds k → Told
told_with of_done x = done
told_with of_verdict w = chapter_verdict w
told_with of_reading x = reading x.0 x.1
told_with of_listing x = listing x.0 x.1
told_with of_audit rows = audit rows
told_with of_denial f = denied f

told_again : (t : Told) → told_with (sort_of t) (holds t) ≡ as_told t
told_again done = refl
told_again (verdict v) = refl
told_again (chapter_verdict w) = refl
told_again (reading sure possible) = refl
told_again (listing rows effort) = refl
told_again (audit rows) = refl
told_again (denied f) = refl

-- replies of one sort
abbrev ToldByReply : ℕ → ℕ → Told → Told → Type 0
ToldByReply o o' t t' = Fits t → Fits t' → reply_of o t ≡ reply_of o' t' → t ≡ t'

pub same_reading_reply : (o o' : ℕ) (s p s' p' : Ruling) → reply_of o (reading s p) ≡ reply_of o' (reading s' p') → (s ≡ s') × (p ≡ p')
same_reading_reply o o' s p s' p' e =
    let both = same_parts s.bytes s'.bytes p.bytes p'.bytes (s.long ∙ sym s'.long) (same_tail e) in
    (same_list s s' both.0, same_list p p' both.1)

same_listing_reply : (o o' : ℕ) (rows rows' : List Ruling) (effort effort' : ℕ) → effort < 2 ^ 32 → effort' < 2 ^ 32 →
    reply_of o (listing rows effort) ≡ reply_of o' (listing rows' effort') → listing rows effort ≡ listing rows' effort'
same_listing_reply o o' rows rows' effort effort' h h' e =
    let both = same_parts (least_first 4 effort) (least_first 4 effort') (flat_map ruling_row rows) (flat_map ruling_row rows') refl (same_tail (same_tail (same_tail e))) in
    ap₂ listing (same_ruling_rows rows rows' both.1) (same_four effort effort' h h' both.0)

same_of_sort : (o o' : ℕ) (k : Reply) (x y : Holds k) → ToldByReply o o' (told_with k x) (told_with k y)
same_of_sort o o' of_done x y h h' e = refl
same_of_sort o o' of_verdict x y h h' e =
    ap chapter_verdict (same_chapter_verdict x y h h' (same_head (same_tail e)) (same_head (same_tail (same_tail e))) (same_head (same_tail (same_tail (same_tail e)))))
same_of_sort o o' of_reading x y h h' e =
    let both = same_reading_reply o o' x.0 x.1 y.0 y.1 e in
    ap₂ reading both.0 both.1
same_of_sort o o' of_listing x y h h' e = same_listing_reply o o' x.0 y.0 x.1 y.1 h h' e
same_of_sort o o' of_audit x y h h' e = ap audit (same_upward_rows x y (same_tail (same_tail (same_tail e))))
same_of_sort o o' of_denial x y h h' e = ap denied (same_fault o o' x y e)

-- the reply to an answer is the reply to what it tells, and fits as it does
reply_as_told : (o : ℕ) (t : Told) → reply_of o (as_told t) ≡ reply_of o t
reply_as_told o done = refl
reply_as_told o (verdict v) = refl
reply_as_told o (chapter_verdict w) = refl
reply_as_told o (reading sure possible) = refl
reply_as_told o (listing rows effort) = refl
reply_as_told o (audit rows) = refl
reply_as_told o (denied f) = refl

fits_as_told : (t : Told) → Fits t → Fits (as_told t)
fits_as_told done h = h
fits_as_told (verdict v) h = λ e. cc
fits_as_told (chapter_verdict w) h = h
fits_as_told (reading sure possible) h = h
fits_as_told (listing rows effort) h = h
fits_as_told (audit rows) h = h
fits_as_told (denied f) h = h

pub reply_determines : ReplyDetermines
reply_determines o o' t t' h h' e =
    by_kind sort_of Holds holds told_with as_told told_again (ToldByReply o o') (same_of_sort o o') t t'
    (sym (sort_told o t) ∙ ap (λ (xs : List ℕ). of_first (get_or xs 0 0)) e ∙ sort_told o' t')
    (fits_as_told t h) (fits_as_told t' h')
    (reply_as_told o t ∙ e ∙ sym (reply_as_told o' t'))

-- only a denial is replied to as one
pub denial_told : (o o' : ℕ) (t : Told) (f : Fault) → reply_of o t ≡ fault_reply o' f → t ≡ denied f
denial_told o o' done f e = let z = same_head e in absurd (omega arith)
denial_told o o' (verdict v) f e = let z = same_head e in absurd (omega arith)
denial_told o o' (chapter_verdict w) f e = let z = same_head e in absurd (omega arith)
denial_told o o' (reading sure possible) f e = let z = same_head e in absurd (omega arith)
denial_told o o' (listing rows effort) f e = let z = same_head e in absurd (omega arith)
denial_told o o' (audit rows) f e = let z = same_head e in absurd (omega arith)
denial_told o o' (denied f') f e = ap denied (same_fault o o' f' f e)
