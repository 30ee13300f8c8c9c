-- The input of a connection that was read, and the part of it that wasn't taken yet.
use Rattle.std.specs.Prelude.{◌≡◌, ℕ, Bool, true, List, ◌++◌}
use Rattle.jac_host.specs.Events.{Event}
use Rattle.jac_host.specs.Gave.{bytes_given}
use Rattle.jac_host.specs.Links.{gave_none, ends_for_good}

-- All bytes that reads gave, and those of them that weren't taken yet.
pub record Held : Type 0 where
  pub whole : List ℕ
  pub rest : List ℕ

-- These bytes were taken. What was left, with the bytes that were read meanwhile added, is these
-- bytes followed by what is left.
pub record HandsOver (old new : Held) (bytes : List ℕ) : Type 0 where
  pub read : List ℕ
  pub whole : new.whole ≡ old.whole ++ read
  pub rest : old.rest ++ read ≡ bytes ++ new.rest

-- The bytes that takes gave, followed by the bytes that are held, are all bytes that reads gave.
-- `ended` says whether a take gave nothing. After such a take none gives bytes.
abbrev pub HoldsInput : List Event → Held → Bool → Type 0
HoldsInput events held ended =
    (bytes_given events ++ held.rest ≡ held.whole) × (ended ≡ gave_none events)
    × (ends_for_good events ≡ true)
