-- What is known of connections that were handed back.
use Rattle.std.proofs.Common.{◌≡◌, ℕ, List, [], ◌∷◌, ◌++◌, map}
use Rattle.std.proofs.lemmas.List.{map-append}
use Rattle.std.proofs.lemmas.List.Elements.{All-nil, All-cons}
use Rattle.jac_host.specs.HandedLinks.{handed_seen, IsEnded, AreEnded}
use Rattle.jac_host.specs.declared.handed_link.HandedLink.{HandedLink}

-- One more was handed back.
pub one_more_handed : (inputs : List (List ℕ)) (links : List HandedLink) (link : HandedLink)
    → map (handed_seen inputs) (links ++ link ∷ []) ≡ map (handed_seen inputs) links ++ handed_seen inputs link ∷ []
one_more_handed inputs links link = map-append (handed_seen inputs) links (link ∷ [])

-- Each link has the proof that its input ended for good.
pub all_ended : (links : List HandedLink) → AreEnded links
all_ended [] = All-nil IsEnded
all_ended (link ∷ links) = All-cons IsEnded link links link.ended (all_ended links)
