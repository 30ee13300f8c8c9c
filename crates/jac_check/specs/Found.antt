-- From the fault that the program found to the fault that the check reports.
use Rattle.std.specs.Prelude.{List, Option, Some, None, Result, Ok, Err}
use Rattle.jac_lang.specs.Syntax.{Entity}
use Rattle.jac_check.specs.declared.fault.CheckFault.{CheckFault}
use Rattle.jac_check.specs.declared.fault.Place.{Place}
use Rattle.jac_check.specs.declared.fault.Place.TheVariants as places
use Rattle.jac_check.specs.declared.found.Found.{Found}
use Rattle.jac_check.specs.declared.found.Spot.{Spot}
use Rattle.jac_check.specs.declared.found.Spot.TheVariants as spots
use Rattle.jac_check.specs.Causes.{fault_at_place}
use Rattle.jac_check.specs.Mirror.{reason_of}

abbrev pub place_of : Spot → Place
place_of spots.Viewer = places.Viewer
place_of (spots.Model name) = places.Model name.now
place_of (spots.View number) = places.View number

-- The fault with names from these models.
abbrev pub found_of : List Entity → Found → CheckFault
found_of ms f = fault_at_place ms (place_of f.place) (reason_of f.cause)

abbrev pub first_check_fault : {A : Type 0} → List Entity → Result A Found → Option CheckFault
first_check_fault ms (Ok a) = None
first_check_fault ms (Err f) = Some (found_of ms f)
