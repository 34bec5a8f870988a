use Rattle.std.proofs.Common.{refl, codes}
use lib.Utf8.{encode}
use Rattle.script_language.proofs.WorkedScripts.{push_prints}
use Rattle.script_language.proofs.worked.scripts.push_on_an_inline_text.Goals as goal

pub returns : goal.returns
unfolding encode
returns c output script =
    push_prints _ (codes "push a\n") output script.named script.asked script.run.begun
    script.run.run.ran script.run.run.shown c.requires.inline
    ((_, refl, (codes "a", refl, record { scalar = refl; encoded = refl })), tt)
