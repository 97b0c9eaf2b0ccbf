use Rattle.std.proofs.Common.{◌≡◌, ◌≤◌, ◌<◌, refl, arith, List, length, map, string_bytes, subst, inl}
use Rattle.std.specs.Io.KnownBytes.{IsAtEnd}
use Rattle.fs_io.specs.declared.reading.TheConstants.{LIMIT}
use Rattle.std.specs.Prelude.{IfSome}
use Rattle.fs_launch.specs.Launch.{told}
use Rattle.fs_words.specs.Usage.{Asked, FitsCommand, command_of}
use Rattle.fs_words.specs.declared.command.Command.{Command}
use Rattle.fs_words.specs.declared.command.Command.TheVariants.{Run, Node}
use Rattle.farsite.specs.Commands.{IsBadLine, IsBound, IsCut, IsDone, IsPastLimit, IsSilent, IsSpentAt, IsStarved, IsUnbound, IsUnread, IsUnturned, read_by}
use Rattle.farsite.proofs.Words.{as_asked, is_node, is_scheduled, no_word, of_asked, or_asked, silent_not_cut, silent_not_done}
use Rattle.farsite.proofs.top.farsite.Goals as goal

pub node-requires : goal.node-requires
node-requires g c = subst FitsCommand c.in-Ok-Node.field-0-is c.in-Ok-Node.ensures.fits

pub returns-in-Ok-Run-clause-done : goal.returns-in-Ok-Run-clause-done
returns-in-Ok-Run-clause-done g c = λ h.
    as_asked c.in-Ok-Run.ensures.asked c.in-Ok-Run.field-0-is (λ (command : Command). IfSome (read_by command (g.S.Source.left c.args.input.now)) (λ bytes. IsDone command (map string_bytes c.args.words.now) bytes (told (g.C.Clock.readings c.args.clock.now) (g.L.Link.calls c.args.link.now) (g.K.Sink.written c.args.out.now)) (told (g.C.Clock.readings c.args.clock.now) (g.L.Link.calls c.args.link.now) (g.K.Sink.written c.scheduled.new.out)))) (c.scheduled.ensures.done h)

pub returns-in-Ok-Run-clause-usage : goal.returns-in-Ok-Run-clause-usage
returns-in-Ok-Run-clause-usage g c = λ word. (λ h. absurd (c.scheduled.ensures.usage word h), λ h. no_word c.in-Ok-Run.ensures.asked c.in-Ok-Run.field-0-is word h)

pub returns-in-Ok-Run-clause-unread : goal.returns-in-Ok-Run-clause-unread
returns-in-Ok-Run-clause-unread g c = λ h. absurd (of_asked c.in-Ok-Run.ensures.asked c.in-Ok-Run.field-0-is (λ (o : Asked). IsUnread o) h)

pub returns-in-Ok-Run-clause-end : goal.returns-in-Ok-Run-clause-end
returns-in-Ok-Run-clause-end g c = λ h. as_asked c.in-Ok-Run.ensures.asked c.in-Ok-Run.field-0-is (λ (command : Command). IsAtEnd (read_by command (g.S.Source.left c.scheduled.new.input))) (c.scheduled.ensures.end h)

pub returns-in-Ok-Run-clause-short : goal.returns-in-Ok-Run-clause-short
returns-in-Ok-Run-clause-short g c = λ h. as_asked c.in-Ok-Run.ensures.asked c.in-Ok-Run.field-0-is (λ (command : Command). IfSome (read_by command (g.S.Source.left c.args.input.now)) (λ bytes. length bytes ≤ LIMIT)) (c.scheduled.ensures.short h)

pub returns-in-Ok-Run-clause-too_long : goal.returns-in-Ok-Run-clause-too_long
returns-in-Ok-Run-clause-too_long g c = λ limit h.
    ((c.scheduled.ensures.too_long limit h).0, as_asked c.in-Ok-Run.ensures.asked c.in-Ok-Run.field-0-is (λ (command : Command). IfSome (read_by command (g.S.Source.left c.args.input.now)) (λ bytes. LIMIT < length bytes)) ((c.scheduled.ensures.too_long limit h).1))

pub returns-in-Ok-Run-clause-bad_line : goal.returns-in-Ok-Run-clause-bad_line
returns-in-Ok-Run-clause-bad_line g c = λ line h.
    as_asked c.in-Ok-Run.ensures.asked c.in-Ok-Run.field-0-is (λ (command : Command). IfSome (read_by command (g.S.Source.left c.args.input.now)) (λ bytes. IsBadLine command line bytes)) (c.scheduled.ensures.bad_line line h)

pub returns-in-Ok-Run-clause-skewed : goal.returns-in-Ok-Run-clause-skewed
returns-in-Ok-Run-clause-skewed g c = λ line earlier h. (is_scheduled c.in-Ok-Run.ensures.asked c.in-Ok-Run.field-0-is, c.scheduled.ensures.skewed line earlier h)

pub returns-in-Ok-Run-clause-limit : goal.returns-in-Ok-Run-clause-limit
returns-in-Ok-Run-clause-limit g c = λ which at h.
    as_asked c.in-Ok-Run.ensures.asked c.in-Ok-Run.field-0-is (λ (command : Command). IfSome (read_by command (g.S.Source.left c.args.input.now)) (λ bytes. IsPastLimit command which at bytes)) (c.scheduled.ensures.limit which at h)

pub returns-in-Ok-Run-clause-spent : goal.returns-in-Ok-Run-clause-spent
returns-in-Ok-Run-clause-spent g c = λ counter h.
    as_asked c.in-Ok-Run.ensures.asked c.in-Ok-Run.field-0-is (λ (command : Command). IfSome (read_by command (g.S.Source.left c.args.input.now)) (λ bytes. IsSpentAt counter command (map string_bytes c.args.words.now) bytes (told (g.C.Clock.readings c.args.clock.now) (g.L.Link.calls c.args.link.now) (g.K.Sink.written c.args.out.now)) (told (g.C.Clock.readings c.args.clock.now) (g.L.Link.calls c.args.link.now) (g.K.Sink.written c.scheduled.new.out)))) (c.scheduled.ensures.spent counter h)

pub returns-in-Ok-Run-clause-memory : goal.returns-in-Ok-Run-clause-memory
returns-in-Ok-Run-clause-memory g c = λ h. inl (c.scheduled.ensures.silent (λ e. cc (h, e)) (λ e. cc (h, e)))

pub returns-in-Ok-Run-clause-prefix : goal.returns-in-Ok-Run-clause-prefix
returns-in-Ok-Run-clause-prefix g c = λ h.
    as_asked c.in-Ok-Run.ensures.asked c.in-Ok-Run.field-0-is (λ (command : Command). IfSome (read_by command (g.S.Source.left c.args.input.now)) (λ bytes. IsCut command (map string_bytes c.args.words.now) bytes (told (g.C.Clock.readings c.args.clock.now) (g.L.Link.calls c.args.link.now) (g.K.Sink.written c.args.out.now)) (told (g.C.Clock.readings c.args.clock.now) (g.L.Link.calls c.args.link.now) (g.K.Sink.written c.scheduled.new.out)))) (c.scheduled.ensures.prefix h)

pub returns-in-Ok-Run-clause-silent : goal.returns-in-Ok-Run-clause-silent
returns-in-Ok-Run-clause-silent g c = λ h. c.scheduled.ensures.silent (silent_not_done (command_of (map string_bytes c.args.words.now)) c.scheduled.result h) (silent_not_cut (command_of (map string_bytes c.args.words.now)) c.scheduled.result h)

pub returns-in-Ok-Run-clause-link_fault : goal.returns-in-Ok-Run-clause-link_fault
returns-in-Ok-Run-clause-link_fault g c = λ h. absurd (c.scheduled.ensures.linked h)

pub returns-in-Ok-Run-clause-unbound : goal.returns-in-Ok-Run-clause-unbound
returns-in-Ok-Run-clause-unbound g c = λ h. absurd (c.scheduled.ensures.linked h)

pub returns-in-Ok-Run-clause-quiet_output : goal.returns-in-Ok-Run-clause-quiet_output
returns-in-Ok-Run-clause-quiet_output g c = λ h. c.scheduled.ensures.quiet_output (λ e. cc (h, e))

pub returns-in-Ok-Run-clause-bound : goal.returns-in-Ok-Run-clause-bound
returns-in-Ok-Run-clause-bound g c = λ h. as_asked c.in-Ok-Run.ensures.asked c.in-Ok-Run.field-0-is (λ (command : Command). IsBound command (g.L.Link.calls c.args.link.now) (g.L.Link.calls c.args.link.now)) refl

pub returns-in-Ok-Generate-clause-done : goal.returns-in-Ok-Generate-clause-done
returns-in-Ok-Generate-clause-done g c = λ h.
    as_asked c.in-Ok-Generate.ensures.asked c.in-Ok-Generate.field-0-is (λ (command : Command). IfSome (read_by command (g.S.Source.left c.args.input.now)) (λ bytes. IsDone command (map string_bytes c.args.words.now) bytes (told (g.C.Clock.readings c.args.clock.now) (g.L.Link.calls c.args.link.now) (g.K.Sink.written c.args.out.now)) (told (g.C.Clock.readings c.args.clock.now) (g.L.Link.calls c.args.link.now) (g.K.Sink.written c.generated.new.out)))) (c.generated.ensures.done h)

pub returns-in-Ok-Generate-clause-usage : goal.returns-in-Ok-Generate-clause-usage
returns-in-Ok-Generate-clause-usage g c = λ word. (λ h. absurd (c.generated.ensures.usage word h), λ h. no_word c.in-Ok-Generate.ensures.asked c.in-Ok-Generate.field-0-is word h)

pub returns-in-Ok-Generate-clause-limit : goal.returns-in-Ok-Generate-clause-limit
returns-in-Ok-Generate-clause-limit g c = λ which at h.
    as_asked c.in-Ok-Generate.ensures.asked c.in-Ok-Generate.field-0-is (λ (command : Command). IfSome (read_by command (g.S.Source.left c.args.input.now)) (λ bytes. IsPastLimit command which at bytes)) (c.generated.ensures.limit which at h)

pub returns-in-Ok-Generate-clause-spent : goal.returns-in-Ok-Generate-clause-spent
returns-in-Ok-Generate-clause-spent g c = λ counter h.
    as_asked c.in-Ok-Generate.ensures.asked c.in-Ok-Generate.field-0-is (λ (command : Command). IfSome (read_by command (g.S.Source.left c.args.input.now)) (λ bytes. IsSpentAt counter command (map string_bytes c.args.words.now) bytes (told (g.C.Clock.readings c.args.clock.now) (g.L.Link.calls c.args.link.now) (g.K.Sink.written c.args.out.now)) (told (g.C.Clock.readings c.args.clock.now) (g.L.Link.calls c.args.link.now) (g.K.Sink.written c.generated.new.out)))) (c.generated.ensures.spent counter h)

pub returns-in-Ok-Generate-clause-memory : goal.returns-in-Ok-Generate-clause-memory
returns-in-Ok-Generate-clause-memory g c = λ h. inl (c.generated.ensures.silent (λ e. cc (h, e)) (λ e. cc (h, e)))

pub returns-in-Ok-Generate-clause-prefix : goal.returns-in-Ok-Generate-clause-prefix
returns-in-Ok-Generate-clause-prefix g c = λ h.
    as_asked c.in-Ok-Generate.ensures.asked c.in-Ok-Generate.field-0-is (λ (command : Command). IfSome (read_by command (g.S.Source.left c.args.input.now)) (λ bytes. IsCut command (map string_bytes c.args.words.now) bytes (told (g.C.Clock.readings c.args.clock.now) (g.L.Link.calls c.args.link.now) (g.K.Sink.written c.args.out.now)) (told (g.C.Clock.readings c.args.clock.now) (g.L.Link.calls c.args.link.now) (g.K.Sink.written c.generated.new.out)))) (c.generated.ensures.prefix h)

pub returns-in-Ok-Generate-clause-silent : goal.returns-in-Ok-Generate-clause-silent
returns-in-Ok-Generate-clause-silent g c = λ h. c.generated.ensures.silent (silent_not_done (command_of (map string_bytes c.args.words.now)) c.generated.result h) (silent_not_cut (command_of (map string_bytes c.args.words.now)) c.generated.result h)

pub returns-in-Ok-Generate-clause-link_fault : goal.returns-in-Ok-Generate-clause-link_fault
returns-in-Ok-Generate-clause-link_fault g c = λ h. absurd (c.generated.ensures.linked h)

pub returns-in-Ok-Generate-clause-unbound : goal.returns-in-Ok-Generate-clause-unbound
returns-in-Ok-Generate-clause-unbound g c = λ h. absurd (c.generated.ensures.linked h)

pub returns-in-Ok-Generate-clause-bound : goal.returns-in-Ok-Generate-clause-bound
returns-in-Ok-Generate-clause-bound g c = λ h. as_asked c.in-Ok-Generate.ensures.asked c.in-Ok-Generate.field-0-is (λ (command : Command). IsBound command (g.L.Link.calls c.args.link.now) (g.L.Link.calls c.args.link.now)) refl

pub returns-in-Ok-Generate-clause-end : goal.returns-in-Ok-Generate-clause-end
returns-in-Ok-Generate-clause-end g c = λ _. as_asked c.in-Ok-Generate.ensures.asked c.in-Ok-Generate.field-0-is (λ (command : Command). IsAtEnd (read_by command (g.S.Source.left c.args.input.now))) refl

pub returns-in-Ok-Generate-clause-short : goal.returns-in-Ok-Generate-clause-short
returns-in-Ok-Generate-clause-short g c = λ _. as_asked c.in-Ok-Generate.ensures.asked c.in-Ok-Generate.field-0-is (λ (command : Command). IfSome (read_by command (g.S.Source.left c.args.input.now)) (λ bytes. length bytes ≤ LIMIT)) (omega arith)

pub returns-in-Ok-Generate-clause-too_long : goal.returns-in-Ok-Generate-clause-too_long
returns-in-Ok-Generate-clause-too_long g c = λ limit h. absurd (c.generated.ensures.too_long limit h)

pub returns-in-Ok-Generate-clause-bad_line : goal.returns-in-Ok-Generate-clause-bad_line
returns-in-Ok-Generate-clause-bad_line g c = λ line h. absurd (c.generated.ensures.bad_line line h)

pub returns-in-Ok-Generate-clause-skewed : goal.returns-in-Ok-Generate-clause-skewed
returns-in-Ok-Generate-clause-skewed g c = λ line earlier h. absurd (c.generated.ensures.skewed line earlier h)

pub returns-in-Ok-Generate-clause-read_fault : goal.returns-in-Ok-Generate-clause-read_fault
returns-in-Ok-Generate-clause-read_fault g c = λ h. absurd (c.generated.ensures.read_fault h)

pub returns-in-Ok-Generate-clause-quiet_output : goal.returns-in-Ok-Generate-clause-quiet_output
returns-in-Ok-Generate-clause-quiet_output g c = λ h. c.generated.ensures.quiet (λ e. cc (h, e))

pub returns-in-Ok-Node-clause-done : goal.returns-in-Ok-Node-clause-done
returns-in-Ok-Node-clause-done g c = λ h.
    as_asked c.in-Ok-Node.ensures.asked c.in-Ok-Node.field-0-is (λ (command : Command). IfSome (read_by command (g.S.Source.left c.args.input.now)) (λ bytes. IsDone command (map string_bytes c.args.words.now) bytes (told (g.C.Clock.readings c.args.clock.now) (g.L.Link.calls c.args.link.now) (g.K.Sink.written c.args.out.now)) (told (g.C.Clock.readings c.node.new.clock) (g.L.Link.calls c.node.new.link) (g.K.Sink.written c.node.new.out)))) (c.node.ensures.done h)

pub returns-in-Ok-Node-clause-usage : goal.returns-in-Ok-Node-clause-usage
returns-in-Ok-Node-clause-usage g c = λ word. (λ h. absurd (c.node.ensures.usage word h), λ h. no_word c.in-Ok-Node.ensures.asked c.in-Ok-Node.field-0-is word h)

pub returns-in-Ok-Node-clause-unread : goal.returns-in-Ok-Node-clause-unread
returns-in-Ok-Node-clause-unread g c = λ h. absurd (of_asked c.in-Ok-Node.ensures.asked c.in-Ok-Node.field-0-is (λ (o : Asked). IsUnread o) h)

pub returns-in-Ok-Node-clause-end : goal.returns-in-Ok-Node-clause-end
returns-in-Ok-Node-clause-end g c = λ h. as_asked c.in-Ok-Node.ensures.asked c.in-Ok-Node.field-0-is (λ (command : Command). IsAtEnd (read_by command (g.S.Source.left c.node.new.input))) (c.node.ensures.end h)

pub returns-in-Ok-Node-clause-short : goal.returns-in-Ok-Node-clause-short
returns-in-Ok-Node-clause-short g c = λ h. as_asked c.in-Ok-Node.ensures.asked c.in-Ok-Node.field-0-is (λ (command : Command). IfSome (read_by command (g.S.Source.left c.args.input.now)) (λ bytes. length bytes ≤ LIMIT)) (c.node.ensures.short h)

pub returns-in-Ok-Node-clause-too_long : goal.returns-in-Ok-Node-clause-too_long
returns-in-Ok-Node-clause-too_long g c = λ limit h.
    ((c.node.ensures.too_long limit h).0, as_asked c.in-Ok-Node.ensures.asked c.in-Ok-Node.field-0-is (λ (command : Command). IfSome (read_by command (g.S.Source.left c.args.input.now)) (λ bytes. LIMIT < length bytes)) ((c.node.ensures.too_long limit h).1))

pub returns-in-Ok-Node-clause-bad_line : goal.returns-in-Ok-Node-clause-bad_line
returns-in-Ok-Node-clause-bad_line g c = λ line h.
    as_asked c.in-Ok-Node.ensures.asked c.in-Ok-Node.field-0-is (λ (command : Command). IfSome (read_by command (g.S.Source.left c.args.input.now)) (λ bytes. IsBadLine command line bytes)) (c.node.ensures.bad_line line h)

pub returns-in-Ok-Node-clause-skewed : goal.returns-in-Ok-Node-clause-skewed
returns-in-Ok-Node-clause-skewed g c = λ line earlier h. absurd (c.node.ensures.skewed line earlier h)

pub returns-in-Ok-Node-clause-limit : goal.returns-in-Ok-Node-clause-limit
returns-in-Ok-Node-clause-limit g c = λ which at h.
    as_asked c.in-Ok-Node.ensures.asked c.in-Ok-Node.field-0-is (λ (command : Command). IfSome (read_by command (g.S.Source.left c.args.input.now)) (λ bytes. IsPastLimit command which at bytes)) (c.node.ensures.limit which at h)

pub returns-in-Ok-Node-clause-spent : goal.returns-in-Ok-Node-clause-spent
returns-in-Ok-Node-clause-spent g c = λ counter h.
    as_asked c.in-Ok-Node.ensures.asked c.in-Ok-Node.field-0-is (λ (command : Command). IfSome (read_by command (g.S.Source.left c.args.input.now)) (λ bytes. IsSpentAt counter command (map string_bytes c.args.words.now) bytes (told (g.C.Clock.readings c.args.clock.now) (g.L.Link.calls c.args.link.now) (g.K.Sink.written c.args.out.now)) (told (g.C.Clock.readings c.node.new.clock) (g.L.Link.calls c.node.new.link) (g.K.Sink.written c.node.new.out)))) (c.node.ensures.spent counter h)

pub returns-in-Ok-Node-clause-memory : goal.returns-in-Ok-Node-clause-memory
returns-in-Ok-Node-clause-memory g c = λ h.
    or_asked c.in-Ok-Node.ensures.asked c.in-Ok-Node.field-0-is (λ (command : Command). IfSome (read_by command (g.S.Source.left c.args.input.now)) (λ bytes. IsStarved command (map string_bytes c.args.words.now) bytes (told (g.C.Clock.readings c.args.clock.now) (g.L.Link.calls c.args.link.now) (g.K.Sink.written c.args.out.now)) (told (g.C.Clock.readings c.node.new.clock) (g.L.Link.calls c.node.new.link) (g.K.Sink.written c.node.new.out)))) (c.node.ensures.memory h)

pub returns-in-Ok-Node-clause-prefix : goal.returns-in-Ok-Node-clause-prefix
returns-in-Ok-Node-clause-prefix g c = λ h.
    as_asked c.in-Ok-Node.ensures.asked c.in-Ok-Node.field-0-is (λ (command : Command). IfSome (read_by command (g.S.Source.left c.args.input.now)) (λ bytes. IsCut command (map string_bytes c.args.words.now) bytes (told (g.C.Clock.readings c.args.clock.now) (g.L.Link.calls c.args.link.now) (g.K.Sink.written c.args.out.now)) (told (g.C.Clock.readings c.node.new.clock) (g.L.Link.calls c.node.new.link) (g.K.Sink.written c.node.new.out)))) (c.node.ensures.prefix h)

pub returns-in-Ok-Node-clause-silent : goal.returns-in-Ok-Node-clause-silent
returns-in-Ok-Node-clause-silent g c = λ h. c.node.ensures.silent (of_asked c.in-Ok-Node.ensures.asked c.in-Ok-Node.field-0-is (λ (o : Asked). IsSilent o c.node.result) h)

pub returns-in-Ok-Node-clause-clock : goal.returns-in-Ok-Node-clause-clock
returns-in-Ok-Node-clause-clock g c = λ h. c.node.ensures.clock (of_asked c.in-Ok-Node.ensures.asked c.in-Ok-Node.field-0-is (λ (o : Asked). IsUnturned o c.node.result) h)

pub returns-in-Ok-Node-clause-link : goal.returns-in-Ok-Node-clause-link
returns-in-Ok-Node-clause-link g c = λ h. absurd (is_node c.in-Ok-Node.ensures.asked c.in-Ok-Node.field-0-is h)

pub returns-in-Ok-Node-clause-unbound : goal.returns-in-Ok-Node-clause-unbound
returns-in-Ok-Node-clause-unbound g c = λ h. ((c.node.ensures.unbound h).0, as_asked c.in-Ok-Node.ensures.asked c.in-Ok-Node.field-0-is (λ (command : Command). IsUnbound command (g.L.Link.calls c.args.link.now) (g.L.Link.calls c.node.new.link)) ((c.node.ensures.unbound h).1))

pub returns-in-Ok-Node-clause-bound : goal.returns-in-Ok-Node-clause-bound
returns-in-Ok-Node-clause-bound g c = λ h. as_asked c.in-Ok-Node.ensures.asked c.in-Ok-Node.field-0-is (λ (command : Command). IsBound command (g.L.Link.calls c.args.link.now) (g.L.Link.calls c.node.new.link)) (c.node.ensures.bound h)
