-- How the program may end over the real devices.
use Rattle.std.specs.Prelude.{◌≡◌, ◌⊎◌, length, None}
use Rattle.nxf_base.specs.declared.status.Status.{Status}
use Rattle.nxf_run.specs.Run.{Sight, Run}
use Rattle.nxf_run.specs.Ending.{MayEnd, Reports}

-- an output that does not tell what it holds, and that has not failed yet
abbrev pub unwritten : Sight
unwritten = record { held = None; faults = 0 }

-- Some run over two or three libraries, and over two outputs that don't tell what they hold and haven't failed, may end so.
pub record MayEndOverDevices (s : Status) : Type 0 where
  pub run : Run
  pub libraries : (length run.shelves ≡ 2) ⊎ (length run.shelves ≡ 3)
  pub out : run.out ≡ unwritten
  pub err : run.err ≡ unwritten
  pub ends : MayEnd run s
  pub reports : Reports run s
