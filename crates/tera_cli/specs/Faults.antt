-- What is told of a fault.
use Rattle.std.specs.Prelude.{ℕ, List, ◌++◌, codes}
use Rattle.tera_report.specs.Errors.{report_of}
use Rattle.tera_report.specs.Report.{report_text}
use Rattle.tera_replies.specs.Script.{ended}
use Rattle.tera_replies.specs.declared.fault.Fault.{Fault}
use Rattle.tera_replies.specs.declared.fault.Fault.TheVariants.{BadLine, ReadFailed, WriteFailed}
use Rattle.tera_replies.specs.declared.fault.Fault.TheVariants.{OutOfMemory}

abbrev pub told_of : Fault → List ℕ
told_of (BadLine report) = ended (report_text (report_of report.value))
told_of ReadFailed = codes "error: reading failed\n"
told_of WriteFailed = codes "error: writing failed\n"
told_of OutOfMemory = codes "error: Out of memory\n"

-- what is told of a file that cannot be read, or written
abbrev pub cannot : List ℕ → List ℕ → List ℕ
cannot verb name = codes "error: cannot " ++ (verb ++ (codes " " ++ (name ++ codes "\n")))

-- what is told of a line that begins with a colon and is no word of a conversation
abbrev pub no_such_word : List ℕ
no_such_word =
    codes "error: no such word; there are :help, :load FILE, :names, :quit and :save FILE\n"

-- what is told of a word behind which no file is named, and of a file whose name is no UTF-8
abbrev pub no_file : List ℕ → List ℕ
no_file word = codes "error: no file is named; it is " ++ (word ++ codes " FILE\n")

abbrev pub no_text : List ℕ
no_text = codes "error: the name of the file is no UTF-8\n"
