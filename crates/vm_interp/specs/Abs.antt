-- What the code's state of a test stands for.
use Rattle.jvm_model.specs.State as states
use Rattle.vm_interp.specs.declared.state.State.{State}

abbrev pub abs : State → states.State
abs s = record { test = s.test; entries = s.frames; stage = s.stage; raised = s.raised; own = s.own }
