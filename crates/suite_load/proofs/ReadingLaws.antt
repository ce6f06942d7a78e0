-- Refusals that name a fault, and what a reading without fault went through.
use Rattle.std.proofs.Common.{◌≡◌, Bool, true, false, Option, Some, None, Result, Ok, Err, refl, ap}
use Rattle.std.specs.Option.{ok_or}
use Rattle.suite_load.specs.declared.suite_text.{SuiteRefusal.SuiteRefusal, SuiteRefusal.TheVariants.Suite, SuiteRefusal.TheVariants.NoMemory}
use Rattle.suite_load.specs.Reading.{◌>>=◌, Fails, Names, tested}

-- where a fault is what reading gives, the refusal that names it says so
pub fails_as : (Y : Type 0) (refusal fault : SuiteRefusal) → Names refusal fault → Fails {Y = Y} refusal (Err fault)
fails_as Y (Suite line why) fault h = ap Err h
fails_as Y NoMemory fault h = tt

-- what is read first has no fault, and what follows it gives the answer
pub went_on : {A B : Type 0} (r : Result A SuiteRefusal) (f : A → Result B SuiteRefusal) (y : B) → (r >>= f) ≡ Ok y → (x : A) × (r ≡ Ok x) × (f x ≡ Ok y)
went_on (Ok x) f y h = (x, refl, h)
went_on (Err e) f y h = absurd cc

pub held : (b : Bool) (fault : SuiteRefusal) (t : Unit {0}) → tested b fault ≡ Ok t → b ≡ true
held true fault t h = refl
held false fault t h = absurd cc

pub was_some : {A : Type 0} (o : Option A) (fault : SuiteRefusal) (x : A) → ok_or o fault ≡ Ok x → o ≡ Some x
was_some None fault x h = absurd cc
was_some (Some y) fault x h = cc
