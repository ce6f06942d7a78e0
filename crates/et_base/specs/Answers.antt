-- What a call answers where a definition gives a value or the first fault. A call's error may also be want of memory, of which no
-- definition speaks: `says` takes an error to the fault that it names, or to none.
use Rattle.std.specs.Prelude.{◌≡◌, Option, Some, None, Result, Ok, Err, Bool, if◌then◌else◌}

-- what is given, and then what f gives of it; the first fault stands
infixl 10 ◌>>=◌
abbrev pub ◌>>=◌ : {A B F : Type 0} → Result A F → (A → Result B F) → Result B F
(Ok x) >>= f = f x
(Err e) >>= f = Err e

-- a test that gives nothing but its fault
abbrev pub tested : {F : Type 0} → Bool → F → Result (Unit {0}) F
tested b fault = if b then Ok tt else Err fault

abbrev pub nothing : {X : Type 0} → X → Unit {0}
nothing x = tt

-- the fault that an error names is the one that is given; one that names none says nothing
abbrev pub Fails : {Y F : Type 0} → Option F → Result Y F → Type 0
Fails None given = Unit {0}
Fails (Some fault) given = given ≡ Err fault

-- What a call answered, seen by view, is what is given, unless memory ran out.
abbrev pub Gives : {E F X Y : Type 0} → (E → Option F) → (X → Y) → Result X E → Result Y F → Type 0
Gives says view (Ok x) given = given ≡ Ok (view x)
Gives says view (Err e) given = Fails (says e) given
