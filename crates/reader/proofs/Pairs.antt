-- Two inputs served, on two markers: the law across the two, and where memory runs out.
use Rattle.std.proofs.Common.{ℕ, List, sym, subst, inl, inr}
use Rattle.books.specs.declared.book.Book.{Ghosts as Sort}
use Rattle.marker.specs.declared.marker.Marker.{Marker}
use Rattle.runs.proofs.CallKinds.{Promises}
use Rattle.runs.proofs.Laws.{marker_law}
use Rattle.reader.specs.Streams.{ServedSoFar}
use Rattle.reader.specs.StreamLaw.{Served, ServedBoth, ServedBothSoFar}
use Rattle.reader.proofs.Streaming.{so_far, not_begun}
use Rattle.reader.proofs.StreamLaws.{stream_law}

-- an input that was served, as one of which the first calls were made
pub served_so_far : {B : Type 0} (S : Sort B) (s : Marker B) (input output : List ℕ) (e : Marker B) → Served S s input output e → ServedSoFar S s input e
served_so_far S s input output e (inl (_, _, same)) = subst (ServedSoFar S s input) (sym same) (not_begun S s input)
served_so_far S s input output e (inr (_, (X, _, _))) = so_far S s input output e X

module _ {B C : Type 0} (S : Sort B) (S' : Sort C) (p : Promises S) (p' : Promises S') {s e : Marker B} {s' e' : Marker C} {input input' : List ℕ} where
  pub served_both : {output output' : List ℕ} → Served S s input output e → Served S' s' input' output' e' → ServedBoth S s input output e S' s' input' output' e'
  served_both one other = record { first = one; second = other; law = λ X Y. stream_law S S' p p' X Y }

  pub served_both_so_far : ServedSoFar S s input e → ServedSoFar S' s' input' e' → ServedBothSoFar S s input e S' s' input' e'
  served_both_so_far (calls, answers, begins, h) (calls', answers', begins', k) =
      (calls, calls', answers, answers', begins, begins', record { first = h; second = k; law = marker_law S S' p p' s e s' e' calls calls' answers answers' h k })
