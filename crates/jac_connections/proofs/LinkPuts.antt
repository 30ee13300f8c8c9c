-- What is taken from a link and put on it.
use Rattle.std.proofs.Common.{◌≡◌, ◌∙◌, ◌≤◌, ◌<◌, sym, refl, ℕ, IsTrue, List, [], length, take, append-nil, length-take, arith}
use Rattle.jac_io.specs.Seen.{Lasts}
use Rattle.jac_io.specs.Linked.{LinkSeen, LinkLasts}
use Rattle.jac_connections.specs.Link.{as_sink}
use Rattle.jac_serve_events.specs.Outside.{span, Took}

-- If a link lasts over a call, so does the sink that it is seen as.
pub sink_lasts : (a b : LinkSeen) → LinkLasts a b → Lasts (as_sink a) (as_sink b)
sink_lasts a b lasts = record { later = lasts.later; told = lasts.told; same_aims = λ told. refl }

pub held_same : (a b : LinkSeen) → (IsTrue b.tells → b.held ≡ a.held) → Took (span (as_sink a) (as_sink b)) []
held_same a b same = λ told. same told ∙ sym (append-nil a.held)

pub some_taken : (count : ℕ) (into : List ℕ) → 0 < count → count ≤ length into → 0 < length (take count into)
some_taken count into some within = let l = length-take count into in omega (arith, l, some, within)

pub most_taken : (count most : ℕ) (into : List ℕ) → length into ≤ most → length (take count into) ≤ most
most_taken count most into within = let l = length-take count into in omega (arith, l, within)
