-- Texts whose lines are requests.
use Rattle.std.specs.Prelude.{ℕ, ◌==◌, Option, Some, None, List, ⊤}
use Rattle.std.specs.List.{All, slice_split}
use Rattle.jac_events.specs.Lines.{line_of}
use Rattle.jac_events.specs.declared.event.Event.{Event}
use Rattle.jac_events.specs.declared.event.Event.TheVariants.{Ask as Asking, Begin, Piece, Finish}

-- The line is empty or a request.
abbrev pub IsAsking : Option (Option Event) → Type 0
IsAsking None = ⊥
IsAsking (Some None) = ⊤
IsAsking (Some (Some (Asking viewer method path query body))) = ⊤
IsAsking (Some (Some (Begin c))) = ⊥
IsAsking (Some (Some (Piece c bytes))) = ⊥
IsAsking (Some (Some (Finish c))) = ⊥

-- Each line of the text is empty or a request. Lines end in LF (10).
abbrev pub AreAsking : List ℕ → Type 0
AreAsking text = All (λ line. IsAsking (line_of line)) (slice_split (λ b. b == 10) text)
