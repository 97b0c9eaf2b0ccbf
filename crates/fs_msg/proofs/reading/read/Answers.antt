use Rattle.std.proofs.Common.{arith}
use Rattle.fs_wire.specs.Ranges.{IsBytes}
use Rattle.fs_msg.specs.Answers.{with_length}
use Rattle.fs_msg.specs.Reading.{message_at}
use Rattle.fs_msg.proofs.Clauses.{TellsFaults, faults_told, front-answers, front-found, front-only, front-trailing}
use Rattle.fs_msg.proofs.reading.read.Goals as goal

pub returns : goal.returns
returns c =
    let bytes = c.args.bytes.now in
    let fits : IsBytes c.args.bytes.now = λ i. omega (arith, c.type_inv.bytes i) in
    let t : TellsFaults c.args.bytes.now c.prefix_of.result = faults_told bytes fits (with_length bytes (message_at bytes)) (front-answers bytes) c.prefix_of.result c.prefix_of.ensures in
    record {
      found = front-found bytes fits c.prefix_of.result c.prefix_of.ensures;
      only = front-only bytes c.prefix_of.result c.prefix_of.ensures;
      short = t.short;
      cut = t.cut;
      tag = t.tag;
      at_tag = t.at_tag;
      range = t.range;
      at_other = t.at_other;
      trailing = front-trailing bytes c.prefix_of.result c.prefix_of.ensures;
    }
