-- Which form a command is of.
use Rattle.nxf_run.specs.declared.words.Command.{Command}
use Rattle.nxf_run.specs.declared.words.Command.TheVariants as command
use Rattle.nxf_run.specs.Forms.{Form, Embed, Check, Lift, Later, NoForm}

-- the form of the words that a command was read from
abbrev pub form_read : Command → Form
form_read (command.Embed file) = Embed file.now
form_read (command.Check file kripke) = Check file.now kripke.now
form_read (command.Lift file interpretation) = Lift file.now interpretation.now
form_read command.Later = Later
form_read command.Unknown = NoForm
