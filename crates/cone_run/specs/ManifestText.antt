-- The manifest as text (this project's).
use Rattle.std.specs.Prelude.{ℕ, List, [], ◌∷◌, ◌++◌, codes}
use Rattle.std.specs.List.{flat_map}
use Rattle.dep_record.specs.DepsText.{test_name}
use Rattle.jvm_model.specs.declared.program.Names.{Names}
use Rattle.cone_run.specs.declared.marks.{Effect.Effect, Effect.TheVariants.Same, Effect.TheVariants.Changed, Effect.TheVariants.Over, Mark.Mark}

abbrev pub effect_word : Effect → List ℕ
effect_word Same = codes "same"
effect_word Changed = codes "changed"
effect_word Over = codes "over"

-- `raw NAME -> NAME EFFECT`, the writer first
abbrev pub mark_line : Names → Mark → List ℕ
mark_line names m = codes "raw " ++ (test_name names m.writer ++ (codes " -> " ++ (test_name names m.test ++ (32 ∷ (effect_word m.effect ++ (10 ∷ []))))))

-- the text on marks
unfoldable pub manifest_text : Names → List Mark → List ℕ
manifest_text names ms = codes "electric-manifest 1" ++ (10 ∷ (flat_map (mark_line names) ms ++ (codes "end" ++ (10 ∷ []))))
