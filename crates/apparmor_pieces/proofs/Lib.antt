mod SlashLaws
