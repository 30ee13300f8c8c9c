-- What contracts see of files and outputs, and how calls change it.
use Rattle.std.specs.Prelude.{◌≡◌, ◌≤◌, ◌<◌, ◌++◌, ◌∷◌, [], ℕ, Bool, List, Option, Some, Result, Err, IfOk, OnOk, OnErr, IsTrue, IsSomeAnd, length}
use Rattle.jac_io.specs.Faults.{Rose}
use Rattle.jac_io.specs.Put.{AddsPrefix}
use Rattle.jac_io.specs.declared.files.FileFault.{FileFault}
use Rattle.jac_io.specs.declared.files.FileFault.TheVariants.{Failed, TooLong, Memory}
use Rattle.jac_io.specs.declared.sink.Failed.{Failed as Refused}

-- What contracts see of files: whether their contents are known, the bytes by name, the count of
-- faults, and the name of each read, in order.
pub record FilesSeen : Type 0 where
  pub tells : Bool
  pub file : List ℕ → Option (List ℕ)
  pub faults : ℕ
  pub asked : List (List ℕ)

-- Any reads of files: if the contents are known afterwards, they were known before, and are the
-- same.
pub record FilesLast (old new : FilesSeen) : Type 0 where
  pub later : old.faults ≤ new.faults
  pub told : IsTrue new.tells → IsTrue old.tells
  pub same_file : IsTrue new.tells → new.file ≡ old.file

-- A read of a whole file of at most `limit` bytes.
pub record ReadsFile (old new : FilesSeen) (name : List ℕ) (limit : ℕ)
    (result : Result (List ℕ) FileFault) : Type 0 where
  pub lasts : FilesLast old new
  pub asked : new.asked ≡ old.asked ++ name ∷ []
  pub within : IfOk result (λ bytes. length bytes ≤ limit)
  pub exact : IsTrue new.tells → IfOk result (λ bytes. old.file name ≡ Some bytes)
  pub too_long : IsTrue new.tells → result ≡ Err TooLong
      → IsSomeAnd (old.file name) (λ bytes. limit < length bytes)
  pub rose : result ≡ Err Failed → Rose old.faults new.faults
  pub no_fault : result ≡ Err Memory → new.faults ≡ old.faults

-- What contracts see of a sink: whether its contents are known, the bytes that were put, each aim
-- with the number of bytes held at that time, and the count of faults.
pub record SinkSeen : Type 0 where
  pub tells : Bool
  pub held : List ℕ
  pub aims : List (Option (List ℕ) × ℕ)
  pub faults : ℕ

-- Any calls on a sink other than `aim`: if its contents are known afterwards, they were known
-- before. Its aims are the same.
pub record Lasts (old new : SinkSeen) : Type 0 where
  pub later : old.faults ≤ new.faults
  pub told : IsTrue new.tells → IsTrue old.tells
  pub same_aims : IsTrue new.tells → new.aims ≡ old.aims

-- A put: it appends all the bytes, or a prefix of them if it fails.
pub record Puts (old new : SinkSeen) (bytes : List ℕ) (result : Result (Unit {0}) Refused) : Type 0
  where
    pub lasts : Lasts old new
    pub same_tells : new.tells ≡ old.tells
    pub ok : IsTrue new.tells → OnOk result (new.held ≡ old.held ++ bytes)
    pub err : IsTrue new.tells → OnErr result (AddsPrefix old.held new.held bytes)
    pub rose : OnErr result (Rose old.faults new.faults)

-- An aim: if it succeeds, it is the last of the aims, with the number of bytes held before it. If
-- it fails, the aims are the same.
pub record Aims (old new : SinkSeen) (name : Option (List ℕ)) (result : Result (Unit {0}) Refused) :
    Type 0 where
  pub later : old.faults ≤ new.faults
  pub same_tells : new.tells ≡ old.tells
  pub same_held : IsTrue new.tells → new.held ≡ old.held
  pub ok : IsTrue new.tells → OnOk result (new.aims ≡ old.aims ++ (name, length old.held) ∷ [])
  pub err : IsTrue new.tells → OnErr result (new.aims ≡ old.aims)
  pub rose : OnErr result (Rose old.faults new.faults)
