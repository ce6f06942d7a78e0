-- What stack maps give, by method.
use Rattle.std.proofs.lemmas.{Option.slice_get-map, Simd.map-map}
use Rattle.std.proofs.Common.{◌≡◌, ℕ, List, [], map, Option, Some, slice_get, unwrap_or, ap, ◌∙◌}
use Rattle.std.specs.Option.{option_map}
use Rattle.jvm_model.specs.declared.program.{Program.Program, MethodRec.MethodRec}
use Rattle.type_frames.specs.{declared.vtype.Frame.Frame, Given.given_frames, Typing.frames_or_none}
use Rattle.type_checker.specs.Steps.{stack_maps}

pub map_of : (p : Program) (n : ℕ) (m : MethodRec) → slice_get p.methods n ≡ Some m → slice_get (stack_maps p) n ≡ Some (given_frames p m)
map_of p n m e = slice_get-map (given_frames p) p.methods n ∙ ap (option_map (given_frames p)) e

pub frames_of_maps : (p : Program) → map (λ (o : Option (List Frame)). unwrap_or o []) (stack_maps p) ≡ map (frames_or_none p) p.methods
frames_of_maps p = map-map (λ (o : Option (List Frame)). unwrap_or o []) (given_frames p) p.methods
