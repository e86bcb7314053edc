-- A call carried out: what it told, and the reply to it.
use Rattle.std.proofs.Common.{◌≡◌, ℕ, ◌/◌, ◌%◌, List, ◌∷◌, [], Ok, Err, Result, sym, refl, ap, ap₂, subst, arith}
use Rattle.std.specs.Int.{to_le_bytes, w32}
use Rattle.std.specs.Result.{IsErrAnd}
use Rattle.answers.specs.declared.fault.Fault.{Fault}
use Rattle.books.specs.declared.book.Book.{Ghosts as Sort}
use Rattle.marker.specs.declared.marker.Marker.{Marker}
use Rattle.runs.specs.declared.call.Call.{Call}
use Rattle.runs.specs.Step.{call_does}
use Rattle.runs.specs.Told.{Told, denied}
use Rattle.reader.specs.Carrying.{RepliesAs, Carried}
use Rattle.reader.specs.Replies.{least_first}

-- a denial is passed on, and nothing is written
pub passed_on : (r : Result ℕ Fault) (why : Fault) (found : List ℕ) → IsErrAnd r (λ f. f ≡ why) → RepliesAs (denied why) found r found
passed_on (Ok n) why found e = absurd e
passed_on (Err f) why found e = (sym (ap denied e), refl)

-- a call that is known by its kind
pub carried : {B : Type 0} (S : Sort B) (call c : Call) (s s' : Marker B) (t : Told) (found : List ℕ) (r : Result ℕ Fault) (left : List ℕ) →
    call ≡ c → call_does S c s t s' → RepliesAs t found r left → Carried S call s found r left s'
carried S call c s s' t found r left is does replies = (t, subst (λ (x : Call). call_does S x s t s') (sym is) does, replies)

-- std's four bytes of a number
pub four_bytes : (n : ℕ) → to_le_bytes w32 n ≡ least_first 4 n
four_bytes n =
    let third : n / 65536 ≡ n / 256 / 256 = omega arith in
    let fourth : n / 16777216 ≡ n / 256 / 256 / 256 = omega arith in
    ap₂ (λ (c d : ℕ). n % 256 ∷ n / 256 % 256 ∷ c % 256 ∷ d % 256 ∷ []) third fourth
