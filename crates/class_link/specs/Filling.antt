-- Methods whose bodies are put in one after another.
use Rattle.std.specs.Prelude.{ℕ, ◌+◌, List, [], ◌∷◌, get_or, set, Option}
use Rattle.jvm_model.specs.{declared.program.Body.Body, declared.program.MethodRec.MethodRec, Classes.no_method}

-- the methods where the one of number m has this body
abbrev pub with_body : List MethodRec → ℕ → Option Body → List MethodRec
with_body methods m b = set methods m (record (get_or methods m no_method) { body = b })

-- the methods where those from number m on have these bodies
abbrev pub filled : ℕ → List (Option Body) → List MethodRec → List MethodRec
filled m [] methods = methods
filled m (b ∷ bs) methods = filled (m + 1) bs (with_body methods m b)
