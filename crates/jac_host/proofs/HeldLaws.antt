-- What was taken, followed by what is left, is what reads gave.
use Rattle.std.proofs.Common.{◌≡◌, ℕ, ◌+◌, ◌-◌, ◌≤◌, List, [], ◌++◌, length, take, drop, ◌∙◌, ap, arith}
use Rattle.std.proofs.lemmas.Grind.{common_steps}
use Rattle.std.proofs.lemmas.List.{take-append-drop, take_rest, drop-drop}
use Rattle.jac_host.specs.Held.{Held, HandsOver}

-- It still is after more bytes were taken.
pub taken_on : (before bytes : List ℕ) (old new : Held) → before ++ old.rest ≡ old.whole → HandsOver old new bytes
    → (before ++ bytes) ++ new.rest ≡ new.whole
taken_on before bytes old new all hands =
    grind (arith, common_steps, all, hands.whole, hands.rest)

pub none_taken : (held : Held) → HandsOver held held []
none_taken held = record { read = []; whole = grind (arith, common_steps); rest = grind (arith, common_steps) }

-- Bytes that were held are taken.
pub held_taken : (old new : Held) (bytes : List ℕ) → new.whole ≡ old.whole → old.rest ≡ bytes ++ new.rest → HandsOver old new bytes
held_taken old new bytes same front = record { read = []; whole = grind (arith, common_steps, same); rest = grind (arith, common_steps, front) }

-- Bytes that were just read are taken, if none were held.
pub read_taken : (old new : Held) (bytes : List ℕ) → old.rest ≡ [] → new.rest ≡ [] → new.whole ≡ old.whole ++ bytes → HandsOver old new bytes
read_taken old new bytes none none_left more = record { read = bytes; whole = more; rest = grind (arith, common_steps, none, none_left) }

-- The front of what is left was copied into a slice.
pub front_taken : (bytes into copied : List ℕ) (at n : ℕ) → n ≤ length bytes - at
    → copied ≡ take n (take (length bytes - at) (drop at bytes))
    → drop at bytes ≡ take n (copied ++ into) ++ drop (at + n) bytes
front_taken bytes into copied at n fits same =
    let rest : take (length bytes - at) (drop at bytes) ≡ drop at bytes = take_rest bytes at in
    let front : copied ≡ take n (drop at bytes) = same ∙ ap (take n) rest in
    let size : length copied ≡ n = grind (arith, common_steps, front, fits) in
    let all : take n (copied ++ into) ≡ copied = grind (arith, common_steps, size) in
    let after : drop n (drop at bytes) ≡ drop (at + n) bytes = drop-drop n at bytes in
    let parts : take n (drop at bytes) ++ drop n (drop at bytes) ≡ drop at bytes = take-append-drop n (drop at bytes) in
    grind (arith, common_steps, all, front, after, parts)
