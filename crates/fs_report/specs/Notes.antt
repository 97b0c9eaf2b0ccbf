-- How notes are written: those of servers, of clients, and of events that concern neither.
use Rattle.std.specs.Prelude.{ℕ, List, [], ◌∷◌, ◌++◌, codes, flat_map}
use Rattle.std.specs.Fmt.{decimal}
use Rattle.fs_ident.specs.IdText.{id_text}
use Rattle.fs_ident.specs.Texts.{server_text, lease_text, txn_text, path_text}
use Rattle.fs_field.specs.Texts.{field_text}
use Rattle.fs_field.specs.declared.field.Field.{Field}
use Rattle.fs_field.specs.declared.field.Field.TheVariants.{Own}
use Rattle.fs_field.specs.declared.lease_kind.LeaseKind.{LeaseKind}
use Rattle.fs_field.specs.declared.lease_kind.LeaseKind.TheVariants.{Shared, Exclusive}
use Rattle.fs_field.specs.declared.asked.Need.{Need}
use Rattle.fs_field.specs.declared.asked.Need.TheVariants.{Lease, Fresh}
use Rattle.fs_field.specs.declared.vote.Vote.{Vote}
use Rattle.fs_field.specs.declared.vote.Vote.TheVariants as vote
use Rattle.fs_ident.specs.declared.actor.LeaseNo.{LeaseNo}
use Rattle.fs_ident.specs.declared.actor.PathNo.{PathNo}
use Rattle.fs_ident.specs.declared.actor.TxnNo.{TxnNo}
use Rattle.fs_record.specs.declared.led_end.Why.{Why}
use Rattle.fs_record.specs.declared.led_end.Why.TheVariants as why
use Rattle.fs_msg.specs.declared.end.End.{End}
use Rattle.fs_msg.specs.declared.end.End.TheVariants as end
use Rattle.fs_msg.specs.declared.refusal.Refusal.{Refusal}
use Rattle.fs_msg.specs.declared.refusal.Refusal.TheVariants as refusal
use Rattle.fs_msg.specs.declared.server_note.ServerNote.{ServerNote}
use Rattle.fs_msg.specs.declared.server_note.ServerNote.TheVariants as server
use Rattle.fs_msg.specs.declared.client_note.ClientNote.{ClientNote}
use Rattle.fs_msg.specs.declared.client_note.ClientNote.TheVariants as client
use Rattle.fs_msg.specs.declared.act.Act.{Act}
use Rattle.fs_msg.specs.declared.act.Act.TheVariants as act
use Rattle.fs_msg.specs.declared.act.Busy.{Busy}
use Rattle.fs_msg.specs.declared.act.Busy.TheVariants as busy
use Rattle.fs_msg.specs.declared.note.Note.{Note}
use Rattle.fs_msg.specs.declared.note.Note.TheVariants as note
use Rattle.fs_report.specs.Texts.{reply_text}

-- ## How far a server got

abbrev pub end_text : End → List ℕ
end_text end.All = codes "all"
end_text (end.Wait blocker) = codes "wait " ++ lease_text blocker
end_text (end.Locked txn) = codes "locked " ++ txn_text txn
end_text (end.Moved prefix to) = codes "moved " ++ (id_text prefix ++ (codes " " ++ server_text to))
end_text (end.NoIds dir) = codes "noids " ++ id_text dir
end_text (end.Ended n lease until now) =
    codes "ended " ++ (decimal n ++ (codes " " ++ (lease_text lease ++ (codes " " ++ (decimal until ++ (codes " " ++ decimal now))))))

-- a word for what was done, how often, and why no more often
abbrev pub progress_text : List ℕ → ℕ → End → List ℕ
progress_text word count e = word ++ (codes " " ++ (decimal count ++ (codes " " ++ end_text e)))

-- the numbers of the entries behind a refused one
abbrev pub gaps_text : List ℕ → List ℕ
gaps_text gaps = flat_map (λ n. codes " gap " ++ decimal n) gaps

-- ## Why a server keeps what it was to hand over

abbrev pub refusal_text : Refusal → List ℕ
refusal_text (refusal.NotMine prefix to) = codes "notmine " ++ (id_text prefix ++ (codes " " ++ server_text to))
refusal_text refusal.NoFile = codes "nofile"
refusal_text refusal.Same = codes "same"
refusal_text (refusal.Busy txn) = codes "busy " ++ txn_text txn
refusal_text (refusal.Paths number) = codes "paths " ++ path_text number

-- ## Led operations

-- a word and the transaction that it is said of
abbrev pub txn_note : List ℕ → TxnNo → List ℕ
txn_note word txn = word ++ (codes " " ++ txn_text txn)

-- a word and the path lease that it is said of
abbrev pub path_note : List ℕ → PathNo → List ℕ
path_note word given = word ++ (codes " " ++ path_text given)

-- a lease that was over, its end, and the reading at which that was seen
abbrev pub ended_text : LeaseNo → ℕ → ℕ → List ℕ
ended_text lease until now = codes "ended " ++ (lease_text lease ++ (codes " " ++ (decimal until ++ (codes " " ++ decimal now))))

-- another server has what begins with the prefix
abbrev pub moved_text : List ℕ → ℕ → List ℕ
moved_text prefix to = codes "moved " ++ (id_text prefix ++ (codes " " ++ server_text to))

-- why something is asked again
abbrev pub why_text : Why → List ℕ
why_text (why.Moved prefix to) = moved_text prefix to
why_text (why.Wanted file) = codes "wanted " ++ id_text file
why_text (why.Frozen file txn) = codes "frozen " ++ (id_text file ++ (codes " " ++ txn_text txn))
why_text (why.PathsOut number) = codes "pathsout " ++ path_text number
why_text why.Changed = codes "changed"
why_text why.NoChild = codes "nochild"

abbrev pub vote_text : Vote → List ℕ
vote_text vote.Yes = codes "yes"
vote_text (vote.Ended lease until now) = ended_text lease until now
vote_text (vote.Moved prefix to) = moved_text prefix to
vote_text (vote.PathsOut number) = codes "pathsout " ++ path_text number

-- ## What a client needs

-- the kind of a lease, but nothing for one on a session's own handles
abbrev pub sharing_text : Field → LeaseKind → List ℕ
sharing_text (Own f) kind = []
sharing_text f Shared = codes " shared"
sharing_text f Exclusive = codes " exclusive"

abbrev pub need_text : Need → List ℕ
need_text (Lease f kind) = field_text f ++ sharing_text f kind
need_text (Fresh dir) = codes "fresh " ++ id_text dir

-- the needs, parted by a comma and a space
abbrev pub needs_text : List Need → List ℕ
needs_text [] = []
needs_text (n ∷ ns) = need_text n ++ flat_map (λ m. codes ", " ++ need_text m) ns

-- ## Notes

abbrev pub server_note_text : ServerNote → List ℕ
server_note_text (server.Grants count e) = progress_text (codes "grants") count e
server_note_text (server.Renews count e) = progress_text (codes "renews") count e
server_note_text (server.Frees count e) = progress_text (codes "frees") count e
server_note_text (server.Admits count e gaps) = progress_text (codes "admits") count e ++ gaps_text gaps
server_note_text (server.Refuses w) = codes "refuses " ++ why_text w
server_note_text (server.Prepares txn) = txn_note (codes "prepares") txn
server_note_text (server.Commits txn r) = txn_note (codes "commits") txn ++ (codes " " ++ reply_text r)
server_note_text (server.Aborts txn w) = txn_note (codes "aborts") txn ++ (codes " " ++ why_text w)
server_note_text (server.AbortsEnded txn lease until now) = txn_note (codes "aborts") txn ++ (codes " " ++ ended_text lease until now)
server_note_text (server.Votes txn v) = txn_note (codes "votes") txn ++ (codes " " ++ vote_text v)
server_note_text (server.Waits txn) = txn_note (codes "waits") txn
server_note_text (server.Seeks txn to) = txn_note (codes "seeks") txn ++ (codes " " ++ server_text to)
server_note_text (server.Applies txn) = txn_note (codes "applies") txn
server_note_text (server.Ends txn) = txn_note (codes "ends") txn
server_note_text (server.PathGrants given) = path_note (codes "pathgrants") given
server_note_text (server.PathDenies w) = codes "pathdenies " ++ why_text w
server_note_text (server.PathHolds given) = path_note (codes "pathholds") given
server_note_text (server.PathDrops given) = path_note (codes "pathdrops") given
server_note_text (server.PathSeeks file to) = codes "pathseeks " ++ (id_text file ++ (codes " " ++ server_text to))
server_note_text (server.PathFails w) = codes "pathfails " ++ why_text w
server_note_text (server.PathFrees given) = path_note (codes "pathfrees") given
server_note_text (server.PathDown given count) = path_note (codes "pathdown") given ++ (codes " " ++ decimal count)
server_note_text (server.PathBack given) = path_note (codes "pathback") given
server_note_text server.PathNone = codes "none"
server_note_text (server.Reaps count) = codes "reaps " ++ decimal count
server_note_text (server.Recalls count) = codes "recalls " ++ decimal count
server_note_text (server.Installs prefix) = codes "installs " ++ id_text prefix
server_note_text (server.Moves prefix to) = codes "moves " ++ (id_text prefix ++ (codes " " ++ server_text to))
server_note_text (server.Stays r) = codes "stays " ++ refusal_text r
server_note_text server.Idle = codes "idle"
server_note_text server.Strange = codes "strange"

-- a word for what is sent, how many, and to which server
abbrev pub request_text : List ℕ → ℕ → ℕ → List ℕ
request_text word count to = word ++ (codes " " ++ (decimal count ++ (codes " " ++ server_text to)))

abbrev pub client_note_text : ClientNote → List ℕ
client_note_text (client.Ships count to) = request_text (codes "ships") count to
client_note_text (client.Releases count to) = request_text (codes "releases") count to
client_note_text (client.Renews count to) = request_text (codes "renews") count to
client_note_text client.Idle = codes "idle"
client_note_text (client.Granted count e) = progress_text (codes "granted") count e
client_note_text (client.Renewed count e) = progress_text (codes "renewed") count e
client_note_text (client.Released count e) = progress_text (codes "released") count e
client_note_text (client.Shipped count e) = progress_text (codes "shipped") count e
client_note_text (client.Recall number) = codes "recall " ++ lease_text number
client_note_text (client.Led n r) = codes "led " ++ (decimal n ++ (codes " " ++ reply_text r))
client_note_text (client.LedAgain w) = codes "led again " ++ why_text w
client_note_text (client.LedEnded lease until now) = codes "led " ++ ended_text lease until now
client_note_text client.Strange = codes "strange"

abbrev pub busy_text : Busy → List ℕ
busy_text busy.Exchange = codes "busy exchange"
busy_text busy.Log = codes "busy log"
busy_text busy.Led = codes "busy led"

abbrev pub act_text : Act → List ℕ
act_text (act.Replied n r) = codes "replied " ++ (decimal n ++ (codes " " ++ reply_text r))
act_text (act.ReadNow n r) = codes "read " ++ (decimal n ++ (codes " " ++ reply_text r))
act_text (act.Asked needs to) = codes "asked " ++ (server_text to ++ (codes " " ++ needs_text needs))
act_text (act.Leading n to) = codes "leading " ++ (decimal n ++ (codes " " ++ server_text to))
act_text (act.Busy what) = busy_text what
act_text (act.NoIds dir) = codes "noids " ++ id_text dir
act_text (act.Over n) = codes "over " ++ decimal n

abbrev pub note_text : Note → List ℕ
note_text (note.Server s) = server_note_text s
note_text (note.Client c) = client_note_text c
note_text (note.Act a) = act_text a
note_text note.Joined = codes "joined"
note_text (note.Answered n r) = codes "answered " ++ (decimal n ++ (codes " " ++ reply_text r))
note_text note.Nothing = codes "nothing"
note_text note.None = codes "none"
note_text note.Part = codes "part"
note_text note.Strange = codes "strange"
