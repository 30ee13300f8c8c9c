-- What a request finds by the routes of an application is what it finds by its views.
use Rattle.std.proofs.Common.{◌≡◌, sym, subst, List, ℕ, length, Result, Ok, Err, IfOk}
use Rattle.jac_value.specs.declared.memory.Memory.{Memory}
use Rattle.jac_lang.specs.Syntax.{Application}
use Rattle.jac_route.specs.declared.lookup.Found.{Found}
use Rattle.jac_route.specs.Routes.{Table, AreRoutes}
use Rattle.jac_route.specs.Found.{found, found_in, found_among, IsWithin}
use Rattle.jac_route.proofs.TableLaws.{within}

pub by_routes : (app : Application) (routes : Table) (method path : List ℕ) (r : Result Found Memory)
    → AreRoutes app routes → IfOk r (λ f. f ≡ found_among routes method path) → IfOk r (λ f. f ≡ found app method path)
by_routes app routes method path r are h = subst (λ (t : Result Table ℕ). IfOk r (λ f. f ≡ found_in t method path)) (sym are) h

pub within_views : (app : Application) (routes : Table) (method path : List ℕ) (r : Result Found Memory)
    → AreRoutes app routes → IfOk r (λ f. f ≡ found_among routes method path) → IfOk r (λ f. IsWithin (length app.views) f)
within_views app routes method path (Ok f) are h = subst (IsWithin (length app.views)) (sym h) (within app routes method path are)
within_views app routes method path (Err e) are h = tt
