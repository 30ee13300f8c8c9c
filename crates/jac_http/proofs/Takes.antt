-- The answer to bytes, by where their head ends.
use Rattle.std.proofs.Common.{◌≡◌, subst, sym, ℕ, ◌≤◌, Option, Some, None, List, length, take, drop}
use Rattle.std.proofs.lemmas.List.{take_all}
use Rattle.jac_http.specs.declared.taken.Taken.{Taken}
use Rattle.jac_http.specs.Heads.{head_in}
use Rattle.jac_http.specs.Requests.{IsTaken, IsTakenAt, IsAnswered, without_head}

pub taken_without : (bytes : List ℕ) (answer : Taken) → None ≡ head_in (take 8192 bytes) → answer ≡ without_head (length bytes) → IsTaken bytes answer
taken_without bytes answer none is = subst (λ (o : Option (List ℕ)). IsTakenAt o bytes answer) none is

pub taken_with : (bytes front : List ℕ) (answer : Taken) → Some front ≡ head_in (take 8192 bytes) → IsAnswered front (drop (length front) bytes) answer
    → IsTaken bytes answer
taken_with bytes front answer some is = subst (λ (o : Option (List ℕ)). IsTakenAt o bytes answer) some is

pub all_in_window : (bytes : List ℕ) → length bytes ≤ 8192 → bytes ≡ take 8192 bytes
all_in_window bytes short = sym (take_all 8192 bytes short)
