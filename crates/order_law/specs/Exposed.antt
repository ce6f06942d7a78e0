-- Tests on the touches of a run.
use Rattle.std.specs.Prelude.{List, [], ◌∷◌, Bool, false, not, ◌&&◌, ◌||◌, cond}
use Rattle.jvm_model.specs.{declared.values.Location.Location, declared.values.Touch.Touch, World.same}

-- some touch writes L
abbrev pub written : List Touch → Location → Bool
written [] L = false
written (x ∷ ts) L = cond x.write (same L x.location || written ts L) (written ts L)

-- an exposed read: a read of L that no write of L precedes
abbrev pub exposed : List Touch → Location → Bool
exposed [] L = false
exposed (x ∷ ts) L = cond x.write (not (same L x.location) && exposed ts L) (same L x.location || exposed ts L)
