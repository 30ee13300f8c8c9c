-- What contracts see of connections and listening sockets, and how calls change it. A link is one
-- connection: bytes are taken from it and written to it. A door gives a link for each connection
-- that arrives.
use Rattle.std.specs.Prelude.{◌≡◌, ◌≤◌, ◌++◌, ◌∷◌, [], ℕ, Bool, List, Option, Some, None, Result, IfOk, OnOk, OnErr, IsTrue, length, take}
use Rattle.jac_io.specs.Faults.{Rose}
use Rattle.jac_io.specs.Put.{AddsPrefix}
use Rattle.jac_io.specs.declared.sink.Failed.{Failed as Refused}

-- What contracts see of a link: whether its contents are known, the input that wasn't taken yet,
-- the bytes that were put, and the count of its faults.
pub record LinkSeen : Type 0 where
  pub tells : Bool
  pub left : List ℕ
  pub held : List ℕ
  pub faults : ℕ

-- Any calls on a link: its count of faults doesn't fall. If its contents are known afterwards, they
-- were known before.
pub record LinkLasts (old new : LinkSeen) : Type 0 where
  pub later : old.faults ≤ new.faults
  pub told : IsTrue new.tells → IsTrue old.tells

-- A take, which wrote to `into`. The bytes it gives are the next bytes of the input. It gives no
-- bytes only at the end of the input. If it fails, no byte is taken.
pub record Takes (old new : LinkSeen) (into : List ℕ) (result : Result ℕ Refused) : Type 0 where
  pub lasts : LinkLasts old new
  pub same_held : IsTrue new.tells → new.held ≡ old.held
  pub within : IfOk result (λ count. count ≤ length into)
  pub ok : IsTrue new.tells → IfOk result (λ count. old.left ≡ take count into ++ new.left)
  pub end : IsTrue new.tells → IfOk result (λ count. count ≡ 0 → old.left ≡ [])
  pub err : IsTrue new.tells → OnErr result (new.left ≡ old.left)
  pub rose : OnErr result (Rose old.faults new.faults)

-- A put on a link: it appends all the bytes, or a prefix of them if it fails.
pub record PutsOn (old new : LinkSeen) (bytes : List ℕ) (result : Result (Unit {0}) Refused) : Type
    0 where
  pub lasts : LinkLasts old new
  pub same_tells : new.tells ≡ old.tells
  pub same_left : IsTrue new.tells → new.left ≡ old.left
  pub ok : IsTrue new.tells → OnOk result (new.held ≡ old.held ++ bytes)
  pub err : IsTrue new.tells → OnErr result (AddsPrefix old.held new.held bytes)
  pub rose : OnErr result (Rose old.faults new.faults)

-- What contracts see of a door with links of type L: whether its contents are known, the links
-- still to come, the port of the last successful listen, the links handed back, in order, and the
-- count of its faults.
pub record DoorSeen (L : Type 0) : Type 0 where
  pub tells : Bool
  pub coming : List L
  pub port : Option ℕ
  pub returned : List L
  pub faults : ℕ

-- Any calls on a door: its count of faults doesn't fall. If its contents are known afterwards, they
-- were known before.
pub record DoorLasts {L : Type 0} (old new : DoorSeen L) : Type 0 where
  pub later : old.faults ≤ new.faults
  pub told : IsTrue new.tells → IsTrue old.tells

-- A listen: the door listens on this port. If it fails, the door listens where it did before.
pub record Listens {L : Type 0} (old new : DoorSeen L) (port : ℕ) (result : Result (Unit {0})
    Refused) : Type 0 where
  pub lasts : DoorLasts old new
  pub same_tells : new.tells ≡ old.tells
  pub same_coming : IsTrue new.tells → new.coming ≡ old.coming
  pub same_returned : IsTrue new.tells → new.returned ≡ old.returned
  pub ok : IsTrue new.tells → OnOk result (new.port ≡ Some port)
  pub err : IsTrue new.tells → OnErr result (new.port ≡ old.port)
  pub rose : OnErr result (Rose old.faults new.faults)

-- The link is the first of those to come, and the others are left. If there is no link, none was to
-- come.
abbrev pub Comes : {L : Type 0} → List L → Option L → List L → Type 0
Comes old (Some line) new = old ≡ line ∷ new
Comes old None new = (old ≡ []) × (new ≡ [])

-- A call of `next`: if it succeeds, `Comes` holds; if it fails, the links to come are the same.
pub record AsksNext {L : Type 0} (old new : DoorSeen L) (result : Result
    (Option L) Refused) : Type 0
  where
    pub lasts : DoorLasts old new
    pub same_port : IsTrue new.tells → new.port ≡ old.port
    pub same_returned : IsTrue new.tells → new.returned ≡ old.returned
    pub ok : IsTrue new.tells → IfOk result (λ line. Comes old.coming line new.coming)
    pub err : IsTrue new.tells → OnErr result (new.coming ≡ old.coming)
    pub rose : OnErr result (Rose old.faults new.faults)

-- A close: the link is the last of those handed back. If it fails, these are the same.
pub record Returns {L : Type 0} (old new : DoorSeen L) (line : L) (result : Result (Unit {0})
    Refused) : Type 0 where
  pub lasts : DoorLasts old new
  pub same_tells : new.tells ≡ old.tells
  pub same_coming : IsTrue new.tells → new.coming ≡ old.coming
  pub same_port : IsTrue new.tells → new.port ≡ old.port
  pub ok : IsTrue new.tells → OnOk result (new.returned ≡ old.returned ++ line ∷ [])
  pub err : IsTrue new.tells → OnErr result (new.returned ≡ old.returned)
  pub rose : OnErr result (Rose old.faults new.faults)
