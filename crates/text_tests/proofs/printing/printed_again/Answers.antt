use Rattle.text_tests.proofs.printing.printed_again.Goals as goal

pub print_file-requires : goal.print_file-requires
print_file-requires c = record { printable = c.regular_file_is_printed.ensures.printable c.args.profile c.in-Ok-read_file.file c.requires c.in-Ok-read_file.ensures.allowed }
