use Rattle.std.proofs.Common.{◌≤◌, sym, subst, arith}
use Rattle.fs_ident.specs.declared.limits.TheConstants.{LATEST}
use Rattle.fs_field.specs.Table.{is_live}
use Rattle.fs_rows.specs.Given.{AreGiven}
use Rattle.fs_rows.proofs.Numbers.{given_filter}
use Rattle.fs_server.specs.declared.state.Server.{Server}
use Rattle.fs_server.proofs.at_reading.AtReading.at.Goals as goal

pub returns-clause-ready : goal.returns-clause-ready
returns-clause-ready c =
    let s : Server = c.args.server.now in
    let latest : c.max-reading.result ≤ LATEST = omega arith in
    record {
      server = record {
        few = c.requires.server.few;
        skew = c.requires.server.skew;
        term = c.requires.server.term;
        last = latest;
        given = c.requires.server.given;
        reaps = c.requires.server.reaps;
        txns = c.requires.server.txns;
        paths = c.requires.server.paths;
        numbers = subst (λ rows. AreGiven s.me s.given rows) (sym c.live.ensures.rows) (given_filter s.me s.given (is_live c.max-reading.result s.skew) s.rows c.requires.server.numbers);
        whole = c.requires.server.whole;
      };
      table = c.live.ensures.valid;
    }
