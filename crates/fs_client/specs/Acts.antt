-- What a client makes of an operation.
use Rattle.std.specs.Prelude.{ℕ, Bool, false, not, ◌&&◌, ◌||◌, ◌==◌, List, [], ◌∷◌, length, Option, Some, None, is_some, filter, if◌then◌else◌}
use Rattle.std.specs.List.{list_any, filter_map}
use Rattle.fs_ident.specs.Ident.{same}
use Rattle.fs_ident.specs.declared.actor.Peer.TheVariants.{Client as OfSession}
use Rattle.fs_ident.specs.declared.kind.Kind.{Kind}
use Rattle.fs_field.specs.declared.asked.Need.{Need}
use Rattle.fs_field.specs.declared.asked.Need.TheVariants.{Lease, Fresh}
use Rattle.fs_field.specs.declared.field.Field.{Field}
use Rattle.fs_field.specs.Field.{file_of}
use Rattle.fs_map.specs.Map.{server_of}
use Rattle.fs_field.specs.declared.lease_kind.LeaseKind.{LeaseKind}
use Rattle.fs_model.specs.declared.op.Op.{Op}
use Rattle.fs_model.specs.declared.op.Op.TheVariants as op
use Rattle.fs_model.specs.declared.reply.Reply.{Reply}
use Rattle.fs_model.specs.declared.reply.Reply.TheVariants as reply
use Rattle.fs_model.specs.Asking.{home_of}
use Rattle.fs_model.specs.Sound.{is_change}
use Rattle.fs_model.specs.Step.{is_empty}
use Rattle.fs_record.specs.Effects.{effects_of, tells_its_effects}
use Rattle.fs_msg.specs.declared.act.Act.{Act}
use Rattle.fs_msg.specs.declared.act.Act.TheVariants as act
use Rattle.fs_msg.specs.declared.act.Busy.TheVariants as busy
use Rattle.fs_msg.specs.declared.client_msg.ClientMsg.TheVariants as client
use Rattle.fs_msg.specs.declared.entry.Entry.{Entry}
use Rattle.fs_view.specs.View.{View, known_by, missing_in, reply_in, uses_in, fresh}
use Rattle.fs_client.specs.declared.change.Change.{Change}
use Rattle.fs_client.specs.declared.change.Change.TheVariants as change
use Rattle.fs_client.specs.declared.exchange.Exchange.TheVariants as exchange
use Rattle.fs_client.specs.declared.led.Led.{Led}
use Rattle.fs_client.specs.declared.plan.Plan.{Plan}
use Rattle.fs_client.specs.declared.state.Client.{Client}
use Rattle.fs_client.specs.Client.{begun, can_change}
use Rattle.fs_client.specs.Led.{is_led, lead_of, moved_known}

-- nothing is sent and nothing admitted
abbrev pub only_noted : {N : Type 0} → Change → N → Client → Plan N
only_noted ch n c = record {
  ready = record { now = c.last; change = ch; hints = None };
  out = record { note = n; send = None; admitted = None };
}

abbrev pub stays : Act → Client → Plan Act
stays a c = only_noted change.Nothing a c

-- ## What is asked for

-- no number is left for a new file in the directory
abbrev pub is_full : List (List ℕ) → List ℕ → Bool
is_full full dir = (length dir == 32) || list_any (λ d. same d dir) full

-- it is an identifier in a full directory
abbrev pub is_futile : List (List ℕ) → Need → Bool
is_futile full (Lease field kind) = false
is_futile full (Fresh dir) = is_full full dir

-- what is worth asking for
abbrev pub worth : List (List ℕ) → List Need → List Need
worth full needs = filter (λ n. not (is_futile full n)) needs

abbrev pub item_of : Need → Option (Field × LeaseKind)
item_of (Lease field kind) = Some (field, kind)
item_of (Fresh dir) = None

abbrev pub items_of : List Need → List (Field × LeaseKind)
items_of needs = filter_map item_of needs

-- the directory below which an identifier is asked for
abbrev pub fresh_asked : List Need → Option (List ℕ)
fresh_asked [] = None
fresh_asked (Lease field kind ∷ needs) = fresh_asked needs
fresh_asked (Fresh dir ∷ needs) = Some dir

-- the server that is said to manage the identifier
abbrev pub hinted : Client → List ℕ → ℕ
hinted c id = server_of c.hints id

-- the file of which a need speaks: of an identifier the directory
abbrev pub need_file : Need → List ℕ
need_file (Lease field kind) = file_of field
need_file (Fresh dir) = dir

-- those that are said to be at the server
abbrev pub needs_at : Client → ℕ → List Need → List Need
needs_at c to needs = filter (λ n. hinted c (need_file n) == to) needs

-- all that is missing is told, and what is said to be at that server is asked for there
abbrev pub asks : ℕ → List Need → Client → Plan Act
asks to needs c = record {
  ready = record {
    now = c.last;
    change = change.Ask (exchange.Asks to (items_of (needs_at c to needs)) (fresh_asked (needs_at c to needs)));
    hints = None;
  };
  out = record {
    note = act.Asked needs to;
    send = Some (to, client.Ask (items_of (needs_at c to needs)) (fresh_asked (needs_at c to needs)));
    admitted = None;
  };
}

-- what is missing is an identifier in a full directory alone
abbrev pub full_one : List Need → Client → Plan Act
full_one [] c = stays (act.NoIds []) c
full_one (Lease field kind ∷ needs) c = full_one needs c
full_one (Fresh dir ∷ needs) c = stays (act.NoIds dir) c

-- something is missing: nothing of it is worth asking for, or a question stands, or it is asked for at the server of the first
abbrev pub ask_for : List Need → List Need → Client → Plan Act
ask_for needs [] c = full_one needs c
ask_for needs (n ∷ ns) c = if is_some c.exchange then stays (act.Busy busy.Exchange) c else asks (hinted c (need_file n)) (n ∷ ns) c

-- ## What is answered

-- a create that is made has the identifier that the view offers, and any other create none
abbrev pub with_id : View → ℕ → Op → Reply → Op
with_id v now (op.Create dir name kind id) reply.Made = op.Create dir name kind (fresh v now dir)
with_id v now (op.Create dir name kind id) r = op.Create dir name kind None
with_id v now o r = o

-- the entry of the operation that gets the reply, with the next number
abbrev pub entry_of : Op → Reply → Client → Entry
entry_of o r c = record { n = c.next; op = with_id c.view c.last o r; reply = r; uses = uses_in c.view c.last o }

-- it is answered, and its entry joins the log
abbrev pub replies : Op → Reply → Client → Plan Act
replies o r c = only_noted (change.Reply (entry_of o r c) (effects_of c.session (with_id c.view c.last o r) r)) (act.Replied c.next r) c

-- it is answered and admitted at once
abbrev pub reads : Op → Reply → Client → Plan Act
reads o r c = record {
  ready = record { now = c.last; change = change.Read; hints = None };
  out = record {
    note = act.ReadNow c.next r;
    send = None;
    admitted = Some (record { by = OfSession c.session; n = c.next; op = with_id c.view c.last o r; reply = r });
  };
}

-- a reply that changes nothing is a read; with an empty log it is admitted at once
abbrev pub answers_plain : Op → Reply → Client → Plan Act
answers_plain o r c = if not (is_change r) && is_empty c.log then reads o r c else replies o r c

-- ## What is led

-- the operation, with its reply and the leases that decided it, and the file that moves or goes
abbrev pub led_with : Op → Reply → List ℕ × Kind → Client → Led
led_with o r moved c =
    record { entry = record { n = c.next; op = o; reply = r; uses = uses_in c.view c.last o }; file = moved.0; kind = moved.1 }

-- the server is to lead it
abbrev pub leads : ℕ → Led → Client → Plan Act
leads to l c = record {
  ready = record { now = c.last; change = change.Lead to l; hints = None };
  out = record { note = act.Leading l.entry.n to; send = Some (to, client.Lead (lead_of l)); admitted = None };
}

-- the server that is said to manage its home is to lead it; where all is known that it needs, its file is
abbrev pub leads_on : Option (List ℕ × Kind) → Op → Reply → Client → Plan Act
leads_on None o r c = stays (act.NoIds []) c
leads_on (Some moved) o r c = leads (hinted c (home_of o)) (led_with o r moved c) c

-- nothing is led while a question stands, or before the log is empty
abbrev pub leads_or_waits : Op → Reply → Client → Plan Act
leads_or_waits o r c =
    if is_some c.exchange then stays (act.Busy busy.Exchange) c
    else if is_empty c.log then leads_on (moved_known (known_by c.view c.last) o) o r c
    else stays (act.Busy busy.Log) c

-- what it used may be at several servers: it is never an entry of the log
abbrev pub reads_or_waits : Op → Reply → Client → Plan Act
reads_or_waits o r c = if is_empty c.log then reads o r c else stays (act.Busy busy.Log) c

-- a delete or a rename: it is led where it changes something, and else it is a read
abbrev pub answers_move : Op → Reply → Client → Plan Act
answers_move o r c = if is_led o r then leads_or_waits o r c else reads_or_waits o r c

abbrev pub answers : Op → Reply → Client → Plan Act
answers o r c = if tells_its_effects o then answers_plain o r c else answers_move o r c

abbrev pub answer_with : Option Reply → Op → Client → Plan Act
answer_with (Some r) o c = answers o r c
answer_with None o c = ask_for (missing_in c.view c.last o) (worth c.full (missing_in c.view c.last o)) c

-- ## The operation

-- nothing else is done while an operation is led
abbrev pub unless_led : Option Led → Op → Client → Plan Act
unless_led (Some l) o c = stays (act.Busy busy.Led) c
unless_led None o c = answer_with (reply_in c.view c.last o) o c

-- a session whose entry was refused is over
abbrev pub act_on : Option ℕ → Op → Client → Plan Act
act_on (Some n) o c = stays (act.Over n) c
act_on None o c = unless_led c.led o c

abbrev pub act_plan : Client → ℕ → Op → Plan Act
act_plan c now o = act_on c.over o (begun now c)

-- a counter that has to rise is at its end
abbrev pub is_act_spent : Client → ℕ → Op → Bool
is_act_spent c now o = not (can_change (act_plan c now o).ready.change (begun now c))
