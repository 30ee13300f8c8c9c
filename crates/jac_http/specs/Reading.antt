-- Conditions on how requests are read from bytes, and the requests at the front of some bytes.
use Rattle.std.specs.Prelude.{◌≡◌, ◌≢◌, ℕ, ◌≤◌, List, [], ◌∷◌, ◌++◌, length, drop}
use Rattle.jac_http.specs.declared.taken.Request.{Request}
use Rattle.jac_http.specs.declared.taken.Taken.{Taken}
use Rattle.jac_http.specs.declared.taken.Taken.TheVariants.{More, Whole}
use Rattle.jac_http.specs.Requests.{IsTaken}

-- What holds for a relation between bytes and the answer to them.
pub record IsReading (reads : List ℕ → Taken → Type 0) : Type 0 where
  -- Bytes have one answer.
  pub one : (bytes : List ℕ) (answer other : Taken) → reads bytes answer → reads bytes other
      → answer ≡ other
  -- Bytes that follow don't change an answer other than `More`.
  pub stays : (bytes following : List ℕ) (answer : Taken) → answer ≢ More → reads bytes answer
      → reads (bytes ++ following) answer
  -- A request takes no more bytes than there are.
  pub within : (bytes : List ℕ) (request : Request) (used : ℕ) → reads bytes (Whole request used)
      → used ≤ length bytes

-- The requests are one after the other at the front of the bytes, and `rest` follows them.
abbrev pub AreRead : List ℕ → List Request → List ℕ → Type 0
AreRead bytes [] rest = rest ≡ bytes
AreRead bytes (request ∷ requests) rest = (used : ℕ) × IsTaken bytes (Whole request used)
    × AreRead (drop used bytes) requests rest
