use Rattle.fs_schedule.specs.Reading.{word_of, IsToldHead}
use Rattle.fs_schedule.proofs.Refusals.{tells_surely_err, told_served, served_words, no_count, no_skew, no_term}
use Rattle.fs_schedule.proofs.head.servers_by.Goals as goal

pub returns-in_err-servers : goal.returns-in_err-servers
returns-in_err-servers c = tells_surely_err IsToldHead _ (served_words (word_of c.args.servers.now) (word_of c.args.skew.now) (word_of c.args.term.now)) c.in_err-servers.field-0.0 c.from_residual.ensures (c.in_err-servers.ensures.0, λ head is. no_count head (word_of c.args.servers.now) (word_of c.args.skew.now) (word_of c.args.term.now) c.in_err-servers.ensures.1 is)

pub returns-in_err-skew : goal.returns-in_err-skew
returns-in_err-skew c = tells_surely_err IsToldHead _ (served_words (word_of c.args.servers.now) (word_of c.args.skew.now) (word_of c.args.term.now)) c.in_err-skew.field-0.0 c.from_residual-in_err-skew.ensures (c.in_err-skew.ensures.0, λ head is. no_skew head (word_of c.args.servers.now) (word_of c.args.skew.now) (word_of c.args.term.now) c.in_err-skew.ensures.1 is)

pub returns-in_err-term : goal.returns-in_err-term
returns-in_err-term c = tells_surely_err IsToldHead _ (served_words (word_of c.args.servers.now) (word_of c.args.skew.now) (word_of c.args.term.now)) c.in_err-term.field-0.0 c.from_residual-in_err-term.ensures (c.in_err-term.ensures.0, λ head is. no_term head (word_of c.args.servers.now) (word_of c.args.skew.now) (word_of c.args.term.now) c.in_err-term.ensures.1 is)

pub returns : goal.returns
returns c = told_served c.in_ok-servers.servers c.in_ok-skew.skew c.in_ok-term.term (word_of c.args.servers.now) (word_of c.args.skew.now) (word_of c.args.term.now) c.in_ok-servers.ensures c.in_ok-skew.ensures c.in_ok-term.ensures
