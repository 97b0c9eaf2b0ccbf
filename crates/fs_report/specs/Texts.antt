-- How operations and replies are written.
use Rattle.std.specs.Prelude.{ℕ, List, ◌∷◌, ◌++◌, codes, Option, Some, None, flat_map}
use Rattle.std.specs.Fmt.{decimal}
use Rattle.fs_ident.specs.IdText.{id_text}
use Rattle.fs_ident.specs.Texts.{quoted, session_text, peer_text}
use Rattle.fs_ident.specs.declared.actor.Peer.{Peer}
use Rattle.fs_model.specs.declared.op.Op.{Op}
use Rattle.fs_model.specs.declared.op.Op.TheVariants as op
use Rattle.fs_model.specs.declared.reply.Reply.{Reply}
use Rattle.fs_model.specs.declared.reply.Reply.TheVariants as reply
use Rattle.fs_schedule.specs.Spelling.{op_words}
use Rattle.fs_schedule.specs.Words.{line_text}

-- a dash where there is none
abbrev pub who_text : Option Peer → List ℕ
who_text None = codes "-"
who_text (Some p) = peer_text p

abbrev pub id_or_dash : Option (List ℕ) → List ℕ
id_or_dash None = codes "-"
id_or_dash (Some id) = id_text id

-- an operation as a schedule has it; a create also has its identifier at the end, and a reap its session
abbrev pub op_text : Op → List ℕ
op_text (op.Create dir name kind id) = line_text (op_words (op.Create dir name kind id)) ++ (codes " " ++ id_or_dash id)
op_text (op.Reap file session) = codes "reap " ++ (id_text file ++ (codes " " ++ session_text session))
op_text o = line_text (op_words o)

abbrev pub reply_text : Reply → List ℕ
reply_text reply.Gone = codes "gone"
reply_text reply.NotDir = codes "notdir"
reply_text reply.GoneTo = codes "goneto"
reply_text reply.NotDirTo = codes "notdirto"
reply_text reply.NoName = codes "noname"
reply_text (reply.Found id) = codes "found " ++ id_text id
reply_text (reply.Names names) = codes "names" ++ flat_map (λ name. 32 ∷ quoted name) names
reply_text reply.IsFile = codes "isfile"
reply_text reply.IsDir = codes "isdir"
reply_text (reply.Info size stamp) = codes "info " ++ (decimal size ++ (codes " " ++ decimal stamp))
reply_text reply.Exists = codes "exists"
reply_text reply.BadId = codes "badid"
reply_text reply.Made = codes "made"
reply_text reply.HandleUsed = codes "handleused"
reply_text reply.Sharing = codes "sharing"
reply_text reply.Opened = codes "opened"
reply_text reply.NoHandle = codes "nohandle"
reply_text reply.Closed = codes "closed"
reply_text reply.NoAccess = codes "noaccess"
reply_text reply.Set = codes "set"
reply_text reply.NotEmpty = codes "notempty"
reply_text reply.InUse = codes "inuse"
reply_text reply.Deleted = codes "deleted"
reply_text reply.Cycle = codes "cycle"
reply_text reply.Renamed = codes "renamed"
reply_text reply.Reaped = codes "reaped"
