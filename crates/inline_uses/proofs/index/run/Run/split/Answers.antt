use Rattle.inline_uses.proofs.RunEdits.{lower_run, upper_run}
use Rattle.inline_uses.proofs.index.run.Run.split.Goals as goal

pub lengthen_front-requires : goal.lengthen_front-requires
lengthen_front-requires g c = lower_run (g.T.Texts.text_of c.args.texts.now) c.args.self.now
    c.args.at c.split_off.new.self c.requires.run c.in_ok-marks.ensures.items

pub lengthen_front-requires-2 : goal.lengthen_front-requires-2
lengthen_front-requires-2 g c = upper_run (g.T.Texts.text_of c.args.texts.now) c.args.self.now
    c.args.at c.in_ok-marks.marks c.requires.run c.in_ok-marks.ensures.tail
