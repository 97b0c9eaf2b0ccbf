use Rattle.std.proofs.Common.{arith}
use Rattle.fs_wire.specs.Ranges.{IsBytes}
use Rattle.fs_msg.specs.Answers.{as_whole}
use Rattle.fs_msg.specs.Reading.{message_at}
use Rattle.fs_msg.proofs.Clauses.{TellsFaults, faults_told, whole-answers, whole-followed, whole-found, whole-only, whole-trailing}
use Rattle.fs_msg.proofs.reading.read_whole.Goals as goal

pub returns : goal.returns
returns c =
    let bytes = c.args.bytes.now in
    let fits : IsBytes c.args.bytes.now = λ i. omega (arith, c.type_inv.bytes i) in
    let t : TellsFaults c.args.bytes.now c.whole_of.result = faults_told bytes fits (as_whole bytes (message_at bytes)) (whole-answers bytes) c.whole_of.result c.whole_of.ensures in
    record {
      found = whole-found bytes fits c.whole_of.result c.whole_of.ensures;
      only = whole-only bytes c.whole_of.result c.whole_of.ensures;
      short = t.short;
      cut = t.cut;
      tag = t.tag;
      at_tag = t.at_tag;
      range = t.range;
      at_other = t.at_other;
      trailing = whole-trailing bytes fits c.whole_of.result c.whole_of.ensures;
      followed = whole-followed bytes c.whole_of.result c.whole_of.ensures;
    }
