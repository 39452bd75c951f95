mod OneWorld
