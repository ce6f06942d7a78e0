-- What a memory keeps of its opening.
use Rattle.std.specs.Prelude.{◌≡◌, List, [], length, map, Some}
use Rattle.jvm_model.specs.declared.{program.Program.Program, values.Value.Value, values.InitState.InitState, values.InitState.TheVariants.Idle}
use Rattle.sim_store.specs.Stored.{Stored}

-- the opening values of a program's statics, class states and files, and as many of each now
pub record IsOpened (p : Program) (statics : List Value) (states : List InitState) (store : Stored) (first_statics : List Value) (first_states : List InitState) : Type 0 where
  pub statics_kept : first_statics ≡ map (λ f. f.opening) p.fields
  pub states_kept : first_states ≡ map (λ c. Idle) p.classes
  pub store_kept : store ≡ record { files = map (λ x. (x.0, Some x.1)) p.files; props = [] }
  pub as_many_statics : length statics ≡ length first_statics
  pub as_many_states : length states ≡ length first_states
