use Rattle.std.proofs.Common.{[], ◌∷◌, ◌++◌, ◌∙◌, codes, sym, ap, subst, map, append_assoc}
use Rattle.std.proofs.lemmas.{List.map-append, Result.on_ok_weaker}
use Rattle.sha2.specs.{Sha256.sha256, Hashers.Holds256}
use Rattle.dep_record.specs.Hashes.{sized, suite_bytes}
use Rattle.suite_load.proofs.SumLaws.{bytes_more}
use Rattle.suite_load.proofs.print_sums.PrintSums.add.Goals as goal

pub returns-clause-sums : goal.returns-clause-sums
returns-clause-sums c = on_ok_weaker c.push.result (λ pushed. λ text files h.
    let class = c.args.class.now in
    record {
      digest = subst (Holds256 c.add_sized.new.sum) (bytes_more text files class) (c.add_sized.ensures (suite_bytes text files) h.digest);
      eager = subst (Holds256 c.add_sized-2.new.sum) (append_assoc (codes "eager") (suite_bytes text files) (sized class) ∙ ap (λ z. codes "eager" ++ z) (bytes_more text files class)) (c.add_sized-2.ensures (codes "eager" ++ suite_bytes text files) h.eager);
      suite = h.suite;
      classes = pushed ∙ ap (λ cs. cs ++ c.digest.result ∷ []) h.classes ∙ ap (λ d. map sha256 files ++ d ∷ []) c.digest.ensures ∙ sym (map-append sha256 files (class ∷ []));
    }) c.push.ensures.pushed
